-- `put_text`: the loop keeps the first i bytes written.
use Rattle.basics.proofs.Prelude.{◌≡◌}
use lib.Seq.{paste}
use Rattle.script.proofs.print.put_text.Given as goal

abbrev pub invariant-loop-i : goal.invariant-loop-i
invariant-loop-i l =
    l.out ≡ paste l.initial.out l.at l.text l.i
