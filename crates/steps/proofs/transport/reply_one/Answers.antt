-- `reply_one`: to a stopped client the message is dropped; else it goes where there is room. Assumes nothing.
use Rattle.register.proofs.Vocabulary.{sent, capacity}
use Rattle.basics.proofs.Prelude.{sym, ap, ◌∙◌, List, ℕ, ◌+◌, ◌-◌, leb}
use Rattle.channel.specs.Memory.{count_at, removed}
use Rattle.channel.proofs.Passing.{passed, failed}
use Rattle.steps.specs.InMemory.{send_one}
use Rattle.steps.proofs.SendLaws.{put_message, send_working, send_stopped}
use Rattle.steps.proofs.transport.reply_one.Goals as goal

pub returns-then-has-clause-slots : goal.returns-then-has-clause-slots
returns-then-has-clause-slots c =
    let a = c.args in
    c.remove.ensures ∙ ap (removed a.slots.now) c.up.ensures
    ∙ sym (send_stopped a.stopped _ a.link.client (a.link.server - 1) a.message
    (passed c.has.ensures c.if-has.true))

pub returns-clause-room : goal.returns-clause-room
returns-clause-room c =
    let a = c.args in
    rw (failed c.has.ensures c.if-has.false) (sym c.if-not-has_room.false ∙ c.has_room.ensures
    ∙ ap (λ (n : ℕ). leb (count_at a.slots.now n + 1) capacity) c.down-to.ensures)

pub returns-clause-slots : goal.returns-clause-slots
returns-clause-slots c =
    let a = c.args in
    put_message _ _ _ _ _ a.message c.down-to.ensures c.words_of.ensures c.put.ensures
    ∙ sym (send_working a.stopped _ a.link.client (a.link.server - 1) a.message
    (failed c.has.ensures c.if-has.false))
    ∙ ap (λ (l : List ℕ). send_one a.stopped l (a.link.server - 1) (sent a.link.client a.message))
    (c.remove-2.ensures ∙ ap (removed a.slots.now) c.up-2.ensures)
