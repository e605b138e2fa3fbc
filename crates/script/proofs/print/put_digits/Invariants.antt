-- `put_digits`: the loop keeps the digits behind place i written.
use Rattle.script.proofs.Trailing.{Trailing}
use Rattle.script.proofs.print.put_digits.Given as goal

abbrev pub invariant-loop-i : goal.invariant-loop-i
invariant-loop-i l =
    Trailing 16 l.initial.out l.at l.count l.value l.out l.rest l.i
