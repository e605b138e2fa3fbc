-- `make_step`: by the step's kind. Assumes nothing.
use Rattle.steps.proofs.Making.{reads, writes, serves, takes, stops, lies}
use Rattle.steps.proofs.step.make_step.Goals as goal

pub returns-in-R : goal.returns-in-R
returns-in-R c = search reads

pub returns-in-W : goal.returns-in-W
returns-in-W c = search writes

pub returns-in-K : goal.returns-in-K
returns-in-K c = search serves

pub returns-in-D : goal.returns-in-D
returns-in-D c = search takes

pub returns-in-C : goal.returns-in-C
returns-in-C c = search stops

pub returns-in-L : goal.returns-in-L
returns-in-L c = search lies
