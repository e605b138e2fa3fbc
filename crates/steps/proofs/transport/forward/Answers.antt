-- `forward`: the loop has sent to those readers that it passed. Assumes nothing.
use Rattle.register.proofs.Vocabulary.{forwards}
use Rattle.basics.proofs.Prelude.{refl, ◌∙◌}
use Rattle.channel.proofs.Passing.{passed, failed}
use Rattle.steps.specs.InMemory.{send_down}
use Rattle.steps.proofs.SendLaws.{forward_reader, forward_other}
use Rattle.steps.proofs.transport.forward.Goals as goal
use Rattle.steps.proofs.transport.forward.Goals.{then-is_in, else-is_in}

pub loop-i-init : goal.loop-i-init
unfolding send_down forwards
loop-i-init c = refl

pub loop-i-preserved : goal.loop-i-preserved
loop-i-preserved c =
    let a = c.args in
    let l = c.loop-i in
    elim c.if-is_in.branch [
      | then-is_in w ↦ forward_reader a.stopped a.slots.now l.slots a.j a.set a.pair l.i l.invariant _
          (passed c.is_in.ensures w.if-is_in.true) (w.slots-is ∙ w.send_one.ensures)
      | else-is_in w ↦ w.slots-is
          ∙ forward_other a.stopped a.slots.now l.slots a.j a.set a.pair l.i l.invariant
          (failed c.is_in.ensures w.if-is_in.false)
    ]
