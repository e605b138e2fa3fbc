-- `passed`: the stop is in none of the blocks that the loop has passed.
use Rattle.basics.proofs.Prelude.{sym, ◌∙◌, arith}
use Rattle.script.proofs.Places.{pass_all, up_to_short}
use Rattle.script.proofs.lines.passed.Goals as goal

pub overflow_sub-text : goal.overflow_sub-text
overflow_sub-text c = omega (arith, up_to_short c.args.stop c.args.text.now)

pub loop-i-preserved : goal.loop-i-preserved
loop-i-preserved c =
    pass_all _ _ c.loop-i.i 16 (omega arith) c.loop-i.invariant (sym c.lacks.ensures ∙ c.if-lacks.true)
