-- `broadcast`: the loop has put the message on the channels to the honest of the servers that it passed.
-- Assumes nothing.
use Rattle.basics.proofs.Prelude.{refl, ◌∙◌}
use Rattle.channel.proofs.Passing.{passed, failed}
use Rattle.steps.specs.InMemory.{broadcast}
use Rattle.steps.proofs.SendLaws.{put_message, broadcast_honest, broadcast_faulty}
use Rattle.steps.proofs.transport.broadcast.Goals as goal
use Rattle.steps.proofs.transport.broadcast.Goals.{then-not-is_in, else-not-is_in}

pub loop-j-init : goal.loop-j-init
unfolding broadcast
loop-j-init c message e = refl

pub loop-j-preserved : goal.loop-j-preserved
loop-j-preserved c message e =
    let a = c.args in
    let slots = c.loop-j.slots in
    let j = c.loop-j.j in
    let before = c.loop-j.invariant message e in
    elim c.if-not-is_in.branch [
      | then-not-is_in w ↦ broadcast_honest a.known.settings.faulty a.slots.now slots a.i message j before _
          (failed c.is_in.ensures w.if-not-is_in.true)
          (w.slots-is ∙ put_message slots _ _ _ _ message w.up.ensures e w.put.ensures)
      | else-not-is_in w ↦ w.slots-is
          ∙ broadcast_faulty a.known.settings.faulty a.slots.now slots a.i message j before
          (passed c.is_in.ensures w.if-not-is_in.false)
    ]
