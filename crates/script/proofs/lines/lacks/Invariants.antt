-- `lacks`: the loop keeps whether none of the bytes that it has passed is the stop.
use Rattle.basics.proofs.Prelude.{◌≡◌, not, get_or, ◌+◌, eqb}
use Rattle.basics.specs.Tests.{all_below}
use Rattle.script.proofs.lines.lacks.Given as goal

abbrev pub invariant-loop-j : goal.invariant-loop-j
invariant-loop-j l =
    l.clear ≡ all_below (λ k. not (eqb (get_or l.text (l.at + k) 0) l.stop)) l.j
