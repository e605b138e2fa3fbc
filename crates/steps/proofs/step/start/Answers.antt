-- `start`: the rungs in turn, and what is left to refuse. Assumes nothing.
use Rattle.basics.proofs.Prelude.{ap, ◌∙◌, ◌-◌}
use Rattle.client.specs.Memory as client
use Rattle.client.specs.Memory.{client_length}
use Rattle.state.specs.State.{client_start}
use Rattle.steps.proofs.Lent.{lent}
use Rattle.steps.proofs.step.start.Goals as goal

pub begin-requires-clause-loaded : goal.begin-requires-clause-loaded
begin-requires-clause-loaded c =
    let a = c.args in
    c.load-client.ensures
    ∙ ap (client.loaded a.d a.known.settings.n a.known.settings.f)
    (lent (client_start (a.d - 1)) client_length a.clients.now _ c.client_start-at.ensures)
