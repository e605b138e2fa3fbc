-- `first_day`: all entries are tested against the rule at once, and `entry` carries the test to the one
-- that is read.
use Rattle.basics.proofs.Prelude.{◌≡◌, refl, true, ◌<◌}
use Rattle.basics.proofs.Table.{entry}
use Rattle.calendar.specs.Calendar.{year_count, leap, year_length, first_day}
use Rattle.calendar.proofs.first_day.Goals as goal

pub returns : goal.returns
unfolding first_day year_length leap
returns c =
    let place : c.args.years < year_count = c.requires in
    let tested : true ≡ true = refl in
    rw (entry first_day)
