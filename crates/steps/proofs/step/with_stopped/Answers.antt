-- `with_stopped`: one more bit. Assumes nothing.
use Rattle.steps.proofs.Stopping.{one_more}
use Rattle.steps.proofs.step.with_stopped.Goals as goal

pub returns : goal.returns
returns c = one_more c.args.stopped c.args.d c.requires.0 c.requires.1 c.requires.2
