-- `arguments`: the loop keeps that the numbers left, behind those that it has read, make the line.
use Rattle.basics.proofs.Prelude.{◌≡◌, length, drop, ◌-◌, ◌≤◌}
use Rattle.script.specs.Grammar.{numbers_then, last_of, arguments_of}
use Rattle.script.proofs.parse.arguments.Given as goal

abbrev pub invariant-loop-number : goal.invariant-loop-number
invariant-loop-number l =
    (l.at ≤ length l.text) ×
    (numbers_then (l._number-end - l._number) l.earliest l.earlier l.later (drop l.at l.text) (last_of l.letter)
    ≡ arguments_of l.letter l.text)
