-- `server::serve_message` meets its contract: sound memory is loaded as a sound server, and what is stored is
-- the model's next one (`Laws.served_in_lem`). Assumes nothing.
use Rattle.basics.proofs.Prelude.{ap, ◌∙◌}
use Rattle.server.specs.declared.Server.{Server}
use Rattle.server.specs.State.{sound}
use Rattle.server.specs.Serving.{served_of}
use Rattle.server.proofs.Laws.{served_in_lem}
use Rattle.server.proofs.Memory.{sound_length, loaded_sound}
use Rattle.server.proofs.serve_message.Goals as goal

pub load-requires : goal.load-requires
load-requires c = sound_length c.args.memory.now c.requires.0

pub after-served-requires : goal.after-served-requires
after-served-requires c =
    (ap sound c.load.ensures ∙ loaded_sound c.args.memory.now c.requires.0, c.requires.1, c.requires.2)

pub store-requires : goal.store-requires
store-requires c = sound_length c.args.memory.now c.requires.0

pub returns : goal.returns
returns c =
    let a = c.args in
    served_in_lem a.memory.now a.d a.message c.after-served.result _
    (c.after-served.ensures
    ∙ ap (λ (server : Server). served_of server a.d a.message) c.load.ensures)
    c.store.ensures
