-- `begin`: the two last rungs, and the start: the next read number and the phase stored, GET_INFO sent.
-- Assumes nothing.
use Rattle.basics.proofs.Prelude.{◌≡◌, sym, ap, ◌∙◌, ◌++◌, drop, ℕ, ◌+◌, ◌-◌, leb}
use Rattle.std.specs.Prelude.{Ok}
use Rattle.register.proofs.Vocabulary.{GetInfo, ReadNumber, last_read}
use Rattle.register.specs.declared.Answer.TheVariants.{Went}
use Rattle.client.specs.declared.Client.{Client}
use Rattle.client.specs.Memory.{head_of, client_length, replies_at}
use Rattle.state.specs.State.{client_start}
use Rattle.steps.specs.InMemory.{send_up, to_all, result, shown, next_of}
use Rattle.steps.proofs.Lent.{lent, put_back}
use Rattle.steps.proofs.step.begin.Goals as goal

pub returns : goal.returns
unfolding send_up
returns c =
    let a = c.args in
    let shows : a.client.reads.0 ≡ (shown a.known.settings a.clients.now a.slots.now a.d).reads.0 =
    ap (λ (x : Client). x.reads.0) c.requires.loaded in
    let last = ap (leb last_read) (sym shows) ∙ sym c.is_last_read.ensures in
    let next : c.next_read-next.result ≡ next_of a.known.settings a.clients.now a.slots.now a.d =
    c.next_read-next.ensures ∙ ap (λ (n : ℕ). record { 0 = n + 1 }) shows in
    let place = c.client_start-at.ensures in
    let stored = put_back (client_start (a.d - 1)) client_length a.clients.now _ place _ _
    (c.store.ensures
    ∙ (λ j. head_of a.phase (next j) ++ drop replies_at
    (lent (client_start (a.d - 1)) client_length a.clients.now _ place j))) in
    let sent = c.broadcast.ensures
    ∙ ap (λ (n : ReadNumber). to_all a.known.settings a.slots.now (a.d - 1) (GetInfo n)) next in
    rw (last ∙ c.if-is_last_read.false, sym c.has_room_up.ensures ∙ c.if-not-has_room_up.false)
    (λ i. result (Ok Went) (stored i) (sent i))
