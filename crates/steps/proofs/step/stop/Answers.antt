-- `stop`: the rungs in turn, and the client stopped. Assumes nothing.
use Rattle.std.specs.Prelude.{Ok}
use Rattle.channel.proofs.Passing.{passed, failed}
use Rattle.refusal.proofs.Ladders.{stop, next}
use Rattle.register.specs.declared.Answer.TheVariants.{Went}
use Rattle.client.proofs.Ladders.{no, yes, rung}
use Rattle.state.specs.State.{put_stopped}
use Rattle.steps.specs.InMemory.{result}
use Rattle.steps.proofs.Rungs.{stop_refused, stop_done}
use Rattle.steps.proofs.step.stop.Goals as goal

pub returns-then-not-is_client : goal.returns-then-not-is_client
returns-then-not-is_client c =
    stop_refused _ _ _ _ _ (stop (rung _ _ _ c.is_client.ensures.is (no c.if-not-is_client.true)))

pub returns-then-has : goal.returns-then-has
returns-then-has c =
    stop_refused _ _ _ _ _
    (next (rung _ _ _ c.is_client.ensures.is (yes c.if-not-is_client.false)) (stop (passed c.has.ensures c.if-has.true)))

pub returns : goal.returns
returns c =
    stop_done _ _ _ _ _
    (λ i. result (Ok Went) (put_stopped c.args.clients.now (c.with_stopped.ensures i)) (c.empty_down.ensures i))
    (rung _ _ _ c.is_client.ensures.is (yes c.if-not-is_client.false))
    (failed c.has.ensures c.if-has.false)
