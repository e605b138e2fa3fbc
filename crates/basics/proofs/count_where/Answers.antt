-- `count_where`: the answers so far count the numbers passed. Assumes nothing.
use Rattle.basics.proofs.Prelude.{arith}
use Rattle.basics.proofs.Counting.{bool_le, counts_none, counts_more}
use Rattle.basics.proofs.count_where.Goals as goal

pub loop-i-init : goal.loop-i-init
loop-i-init g c = (omega arith, counts_none _)

pub loop-i-preserved : goal.loop-i-preserved
loop-i-preserved g c =
    (omega (arith, bool_le c.test.result), counts_more _ _ _ _ c.test.ensures c.loop-i.invariant.1)
