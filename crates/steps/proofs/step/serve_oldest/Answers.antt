-- `serve_oldest`: what is no message goes off its channel; a message is served. Assumes nothing.
use Rattle.basics.proofs.Prelude.{sym, ap, ◌∙◌, arith}
use Rattle.state.specs.State.{message_at}
use Rattle.steps.proofs.Serving.{drop_gives}
use Rattle.steps.proofs.step.serve_oldest.Goals as goal

pub returns-in_default : goal.returns-in_default
returns-in_default c =
    let a = c.args in
    let link = a.link in
    let found = c.oldest_request.ensures ∙ ap (message_at a.slots.now) c.up-from.ensures in
    drop_gives link.known.settings a.stopped a.servers.now a.slots.now link.server link.client
    link.server_there.0 (omega arith) link.known.few_clients c.requires.counts c.requires.sound _
    (sym found ∙ c.in_default.is) _ _ c.up-from.ensures c.remove.ensures
