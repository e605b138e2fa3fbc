-- `moved`: field by field the definition's record.
-- Assumes nothing.
use Rattle.licence.specs.Renewal.{later}
use Rattle.licence.proofs.moved.Goals as goal

pub returns : goal.returns
unfolding later
returns c = simp c.kept_day.ensures
