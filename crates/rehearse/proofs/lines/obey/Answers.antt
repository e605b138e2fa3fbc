-- `obey`: a line that is neither a setup nor a step.
-- Assumes nothing.
use Rattle.rehearse.proofs.Obeying.{obeys_unread}
use Rattle.rehearse.proofs.lines.obey.Goals as goal

pub returns-in-None : goal.returns-in-None
returns-in-None c = rw c.in-None.is (λ number. obeys_unread _ _ _ _ number)
