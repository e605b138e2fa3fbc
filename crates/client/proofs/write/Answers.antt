-- `write`: a start, whose ladder is the same.
-- Assumes nothing.
use Rattle.client.proofs.Ladders.{write_is}
use Rattle.client.proofs.write.Goals as goal

pub returns : goal.returns
returns c = search write_is
