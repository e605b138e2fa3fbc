-- `deliver`: by the reply's kind. Assumes nothing.
use Rattle.basics.proofs.Prelude.{sym, ap, ◌∙◌, subst, true, ◌-◌, arith}
use Rattle.channel.specs.Memory.{removed}
use Rattle.server.specs.declared.Sends.{Sends}
use Rattle.server.specs.Serving.{sent_by}
use Rattle.steps.specs.InMemory.{send_down, Delivered}
use Rattle.steps.proofs.Fitting.{room_none, room_info}
use Rattle.steps.proofs.transport.deliver.Goals as goal

pub returns-in-Nothing : goal.returns-in-Nothing
unfolding sent_by send_down
returns-in-Nothing c =
    let a = c.args in
    let link = a.link in
    let settings = link.known.settings in
    let i = link.client - 1 in
    let j = link.server - 1 in
    subst (λ (x : Sends). Delivered settings a.stopped a.slots.now i j (sent_by link.client x) true
    c.remove.new.slots)
    (sym c.in-Nothing.is) (
      sym (room_none settings a.stopped a.slots.now link.client j (omega arith) link.known.few_clients
          c.requires),
      c.remove.ensures ∙ ap (removed a.slots.now) c.up.ensures,
    )

pub returns-in-Info : goal.returns-in-Info
unfolding sent_by send_down
returns-in-Info c =
    let a = c.args in
    let link = a.link in
    let settings = link.known.settings in
    let i = link.client - 1 in
    let j = link.server - 1 in
    subst (λ (x : Sends). Delivered settings a.stopped a.slots.now i j (sent_by link.client x)
    c.reply_one.result c.reply_one.new.slots)
    (sym c.in-Info.is) (
      c.reply_one.ensures.room
          ∙ sym (room_info settings a.stopped a.slots.now link.client j (omega arith) link.known.few_clients
          c.requires _ _ link.client_there.0 link.client_there.1),
      c.reply_one.ensures.slots,
    )
