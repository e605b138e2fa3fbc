-- `marks_in`: the loop keeps the marks from place i on, the last first.
use Rattle.basics.proofs.Prelude.{◌≡◌, true, length, drop, ◌-◌, ◌^◌}
use Rattle.basics.proofs.Prelude.{◌≤◌, ◌<◌}
use Rattle.script.specs.Numbers.{all_bytes}
use Rattle.script.specs.Grammar.{is_mark, mark_bits}
use Rattle.script.proofs.parse.marks_in.Given as goal

abbrev pub invariant-loop-i : goal.invariant-loop-i
invariant-loop-i l =
    (l.i ≤ length l.text) × (all_bytes is_mark (drop l.i l.text) ≡ true) × (l.value ≡ mark_bits (drop l.i l.text)) ×
    (l.value < 2 ^ (length l.text - l.i))
