-- `obey_lines`: the text of the lines so far is written, and the program knows what it knows after them.
-- Each line adds its own.
--
-- In order: the lines so far; their end; one line more.
-- Assumes nothing.
use Rattle.basics.proofs.Prelude.{◌≡◌, length, ◌-◌}
use Rattle.script.specs.Numerals.{numeral_of}
use Rattle.rehearse.specs.Stage.{stage}
use Rattle.rehearse.proofs.SoFar.{SoFar}
use Rattle.rehearse.proofs.lines.obey_lines.Given as goal

-- ---- the lines so far
abbrev pub invariant-loop-found : goal.invariant-loop-found
invariant-loop-found l =
    SoFar (stage l.initial.settings l.initial.state.servers l.initial.state.clients l.initial.state.slots
    l.initial.number.number) l.input l.initial.out
    (stage l.settings l.state.servers l.state.clients l.state.slots l.number.number) l.at l.used l.out
    × (l.number ≡ numeral_of l.number.number)

abbrev pub decreases-loop-found : goal.decreases-loop-found
decreases-loop-found l =
    length l.input - l.at
