-- `read`: a start, whose ladder is the same.
-- Assumes nothing.
use Rattle.client.specs.Entry.{read_of, start_of}
use Rattle.client.proofs.read.Goals as goal

pub returns : goal.returns
unfolding read_of start_of
returns c = c.start.ensures
