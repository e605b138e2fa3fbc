-- `take_oldest`: what is no message, or one that the client does not take, goes off its channel; else it is
-- taken.
-- Assumes nothing.
use Rattle.basics.proofs.Prelude.{refl, sym, ap, ◌∙◌, List, ℕ, ◌-◌, arith}
use Rattle.client.specs.Memory as client
use Rattle.client.specs.Taking.{is_taken}
use Rattle.client.proofs.Dropping.{not_taken}
use Rattle.client.specs.Memory.{client_length}
use Rattle.state.specs.State.{client_start, message_at}
use Rattle.steps.proofs.Lent.{lent}
use Rattle.steps.proofs.Receiving.{off_gives}
use Rattle.steps.proofs.step.take_oldest.Goals as goal

pub returns-in_default : goal.returns-in_default
returns-in_default c =
    let a = c.args in
    let link = a.link in
    let found = c.oldest_reply.ensures ∙ ap (message_at a.slots.now) c.down-from.ensures in
    off_gives link.known.settings a.clients.now a.slots.now link.client link.server link.known.few_servers
    c.requires.counts link.client_there.0 (omega arith) c.requires.sound _ (sym found ∙ c.in_default.is) refl
    _ _ c.down-from.ensures c.remove.ensures

pub returns-then-not-is_taken : goal.returns-then-not-is_taken
returns-then-not-is_taken c =
    let a = c.args in
    let link = a.link in
    let settings = link.known.settings in
    let found = c.oldest_reply.ensures ∙ ap (message_at a.slots.now) c.down-from.ensures in
    let part = lent (client_start (link.client - 1)) client_length a.clients.now _
    c.client_start-at.ensures in
    let other = sym (c.is_taken.ensures
    ∙ ap (λ (l : List ℕ). is_taken (client.view l) link.server c.in-Ok.message) part)
    ∙ c.if-not-is_taken.true in
    off_gives settings a.clients.now a.slots.now link.client link.server link.known.few_servers
    c.requires.counts link.client_there.0 (omega arith) c.requires.sound _ (sym found ∙ c.in-Ok.is)
    (not_taken settings.n settings.f link.client _ link.server c.in-Ok.message other) _ _
    c.down-from.ensures c.remove-then-not-is_taken.ensures
