-- `write`: a start with an entry, which must be a licence. Assumes nothing.
use Rattle.basics.proofs.Prelude.{ap, ◌∙◌, Bool, not}
use Rattle.register.specs.declared.Phase.TheVariants.{ReadingForWrite}
use Rattle.steps.specs.InMemory.{start_step, write_step}
use Rattle.steps.proofs.step.write.Goals as goal

pub returns : goal.returns
unfolding write_step
returns c =
    let a = c.args in
    c.start.ensures
    ∙ ap (λ (y : Bool). start_step a.known.settings a.clients.now a.slots.now a.d (ReadingForWrite a.entry)
    (not y) 3)
    c.is_licence.ensures
