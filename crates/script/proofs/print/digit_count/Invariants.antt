-- `digit_count`: the loop keeps the power of ten that so many digits stay below, and that there
-- are as many at least.
use Rattle.basics.proofs.Prelude.{◌≡◌, ◌-◌, ◌^◌, ◌≤◌}
use Rattle.script.specs.Numbers.{digit_count}
use Rattle.script.proofs.print.digit_count.Given as goal

abbrev pub invariant-loop-power : goal.invariant-loop-power
invariant-loop-power l =
    (1 ≤ l.count) × (l.count ≤ 19) × (l.power ≡ 10 ^ l.count) × (l.count ≤ digit_count 19 l.value)

abbrev pub decreases-loop-power : goal.decreases-loop-power
decreases-loop-power l =
    19 - l.count
