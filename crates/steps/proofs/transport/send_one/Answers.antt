-- `send_one`: the message is put where the client works, and dropped where it has stopped. Assumes nothing.
use Rattle.basics.proofs.Prelude.{◌≡◌, sym, ap, ◌∙◌, ℕ, suc, ◌-◌, arith}
use Rattle.channel.proofs.Passing.{passed, failed}
use Rattle.state.specs.State.{down_index}
use Rattle.steps.proofs.SendLaws.{put_message, send_working, send_stopped}
use Rattle.steps.proofs.transport.send_one.Goals as goal

pub returns-then-not-is_in : goal.returns-then-not-is_in
returns-then-not-is_in c =
    let a = c.args in
    let same : a.i ≡ suc a.i - 1 = omega arith in
    put_message a.slots.now _ _ _ _ a.message (c.down.ensures ∙ ap (λ (n : ℕ). down_index n a.j) same)
    c.words_of.ensures c.put.ensures
    ∙ sym (send_working a.stopped a.slots.now (suc a.i) a.j a.message
    (failed c.is_in.ensures c.if-not-is_in.true))

pub returns-else-not-is_in : goal.returns-else-not-is_in
returns-else-not-is_in c =
    let a = c.args in
    sym (send_stopped a.stopped a.slots.now (suc a.i) a.j a.message
    (passed c.is_in.ensures c.if-not-is_in.false))
