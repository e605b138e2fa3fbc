-- `count_where`: the answers so far count the numbers passed. Assumes nothing.
use Rattle.basics.proofs.Prelude.{◌≤◌}
use Rattle.basics.specs.Counting.{Counts}
use Rattle.basics.proofs.count_where.Given as goal

abbrev pub invariant-loop-i : goal.invariant-loop-i
invariant-loop-i g l = (l.count ≤ l.i) × Counts (goal.F-post g l.test) l.i l.count
