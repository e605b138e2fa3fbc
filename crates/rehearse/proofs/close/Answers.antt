-- `close`: by what was kept and what was read (`Closing`).
-- Assumes nothing.
use Rattle.rehearse.proofs.Closing.{read_some, read_none, read_last}
use Rattle.rehearse.proofs.close.Goals as goal

pub returns-then-more-gt0 : goal.returns-then-more-gt0
returns-then-more-gt0 c = search read_some

pub returns-then-have-lt1 : goal.returns-then-have-lt1
returns-then-have-lt1 c = search read_none

pub returns : goal.returns
returns c = search read_last
