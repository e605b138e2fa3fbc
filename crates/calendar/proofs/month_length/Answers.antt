-- `month_length`: each arm of the match knows which months lead to it.
use Rattle.basics.proofs.Prelude.{rules}
use Rattle.calendar.specs.Calendar.{month_length}
use Rattle.calendar.proofs.month_length.Goals as goal

pub returns-in-4 : goal.returns-in-4
unfolding month_length
returns-in-4 c = search rules

pub returns-in_default : goal.returns-in_default
unfolding month_length
returns-in_default c = search rules

pub returns-then-leap : goal.returns-then-leap
unfolding month_length
returns-then-leap c = search rules

pub returns-else-leap : goal.returns-else-leap
unfolding month_length
returns-else-leap c = search rules
