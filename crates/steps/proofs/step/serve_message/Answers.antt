-- `serve_message`: the last rung, and the message taken. Assumes nothing.
use Rattle.basics.proofs.Prelude.{ap, ◌∙◌, ◌-◌, arith}
use Rattle.server.specs.declared.Server.{Server}
use Rattle.server.specs.Memory as server
use Rattle.server.specs.State.{sound}
use Rattle.server.specs.Serving.{served_of}
use Rattle.server.proofs.Memory.{loaded_sound}
use Rattle.server.specs.Memory.{server_length}
use Rattle.state.specs.State.{server_start, server_at}
use Rattle.steps.proofs.Lent.{lent, put_back}
use Rattle.steps.proofs.Serving.{serve_refused, serve_gives}
use Rattle.steps.proofs.step.serve_message.Goals as goal

pub after-served-requires : goal.after-served-requires
after-served-requires c =
    let a = c.args in
    let link = a.link in
    let loaded = c.load.ensures ∙ ap server.loaded
    (lent (server_start (link.server - 1)) server_length a.servers.now _ c.server_start-at.ensures) in (
      ap sound loaded ∙ loaded_sound (server_at a.servers.now (link.server - 1)) c.requires.sound,
      link.client_there.0,
      omega arith,
    )

pub returns-then-not-deliver : goal.returns-then-not-deliver
returns-then-not-deliver c =
    let a = c.args in
    let link = a.link in
    let loaded = c.load.ensures ∙ ap server.loaded
    (lent (server_start (link.server - 1)) server_length a.servers.now _ c.server_start-at.ensures) in
    serve_refused link.known.settings a.stopped a.servers.now a.slots.now link.server link.client _ _ _ _
    c.requires.asked
    (c.after-served.ensures ∙ ap (λ (v : Server). served_of v link.client a.message) loaded)
    c.deliver.ensures c.if-not-deliver.true

pub returns : goal.returns
returns c =
    let a = c.args in
    let link = a.link in
    let loaded = c.load.ensures ∙ ap server.loaded
    (lent (server_start (link.server - 1)) server_length a.servers.now _ c.server_start-at.ensures) in
    serve_gives link.known.settings a.stopped a.servers.now a.slots.now link.server link.client _ _ _ _
    c.requires.asked
    (c.after-served.ensures ∙ ap (λ (v : Server). served_of v link.client a.message) loaded)
    c.deliver.ensures c.if-not-deliver.false _
    (put_back (server_start (link.server - 1)) server_length a.servers.now _ c.server_start-at.ensures _ _
    c.store.ensures)
