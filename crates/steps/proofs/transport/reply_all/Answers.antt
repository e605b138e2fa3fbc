-- `reply_all`: the pair forwarded and acknowledged, where there is room for both. Assumes nothing.
use Rattle.basics.proofs.Prelude.{◌≡◌, sym, ap, ◌∙◌, List, ℕ, suc, ◌-◌, arith}
use Rattle.channel.specs.Memory.{removed}
use Rattle.register.proofs.Vocabulary.{sent, WriteAck}
use Rattle.server.specs.declared.Sends.TheVariants.{Forward}
use Rattle.server.specs.Serving.{sent_by}
use Rattle.steps.specs.InMemory.{send_one, send_down}
use Rattle.steps.proofs.SendLaws.{reply_forward}
use Rattle.steps.proofs.transport.reply_all.Goals as goal

pub returns : goal.returns
returns c =
    let a = c.args in
    let link = a.link in
    let same : suc (link.client - 1) ≡ link.client = omega arith in
    let j = link.server - 1 in (
      sym c.if-not-all_have_room.false ∙ c.all_have_room.ensures a.pair,
      reply_forward a.stopped _ j link.client a.set a.pair _ _ _ c.counter_of.ensures c.forward.ensures
          (c.send_one.ensures
          ∙ ap (λ (d : ℕ). send_one a.stopped c.forward.new.slots j (sent d (WriteAck c.counter_of.result)))
          same)
          ∙ ap (λ (l : List ℕ). send_down a.stopped l j (sent_by link.client (Forward a.set a.pair)))
          (c.remove.ensures ∙ ap (removed a.slots.now) c.up.ensures),
    )
