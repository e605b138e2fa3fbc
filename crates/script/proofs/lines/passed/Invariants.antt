-- `passed`: the stop is in none of the blocks that the loop has passed.
use Rattle.basics.proofs.Prelude.{length, ◌-◌, ◌≤◌}
use Rattle.script.specs.Lines.{up_to}
use Rattle.script.proofs.lines.passed.Given as goal

abbrev pub invariant-loop-i : goal.invariant-loop-i
invariant-loop-i l =
    l.i ≤ length (up_to l.stop l.text)

abbrev pub decreases-loop-i : goal.decreases-loop-i
decreases-loop-i l =
    length l.text - l.i
