-- `last_of_february`: the test for a leap year is the definition's.
-- Assumes nothing.
use Rattle.basics.proofs.Prelude.{sym, ◌∙◌}
use Rattle.licence.proofs.Kept.{last_in_leap_year, last_in_common_year}
use Rattle.licence.proofs.last_of_february.Goals as goal

pub returns-then-is_leap : goal.returns-then-is_leap
returns-then-is_leap c = sym (last_in_leap_year _ (sym c.is_leap.ensures ∙ c.if-is_leap.true))

pub returns-else-is_leap : goal.returns-else-is_leap
returns-else-is_leap c = sym (last_in_common_year _ (sym c.is_leap.ensures ∙ c.if-is_leap.false))
