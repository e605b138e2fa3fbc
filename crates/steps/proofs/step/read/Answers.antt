-- `read`: a start whose entry is not asked for. Assumes nothing.
use Rattle.steps.specs.InMemory.{read_step}
use Rattle.steps.proofs.step.read.Goals as goal

pub returns : goal.returns
unfolding read_step
returns c = c.start.ensures
