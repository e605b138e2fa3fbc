-- `put_decimal`: the loop keeps the digits behind place i written. Where one is rest at its end, the first
-- digit is written too.
use Rattle.script.proofs.Trailing.{Trailing}
use Rattle.script.proofs.print.put_decimal.Given as goal

abbrev pub invariant-loop-i : goal.invariant-loop-i
invariant-loop-i l =
    Trailing 10 l.initial.out l.at l.count l.value l.out l.rest l.i

abbrev pub decreases-loop-i : goal.decreases-loop-i
decreases-loop-i l =
    l.i
