-- `obey_step`: a sound state is ready for a step.
-- Assumes nothing.
use Rattle.state.proofs.SoundFacts.{facts}
use Rattle.system.proofs.ReadyLaws.{ready}
use Rattle.rehearse.proofs.lines.obey_step.Goals as goal

pub make_step-requires : goal.make_step-requires
make_step-requires c = ready _ _ _ _ (facts _ _ _ _ (rw c.in-Some.is at c.requires))
