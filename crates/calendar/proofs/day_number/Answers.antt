-- `day_number`: the test in front gives the bounds of a real date, which keep the places in the tables and
-- the sums small.
use Rattle.basics.proofs.Prelude.{sym, ◌∙◌, ◌-◌, arith}
use Rattle.calendar.specs.Calendar.{first_year, day_of, day_number}
use Rattle.calendar.proofs.Dates.{Real, real}
use Rattle.calendar.proofs.Lengths.{first_most}
use Rattle.calendar.proofs.day_number.Goals as goal

is_real : (c : goal.Else-not-is_date) → Real c.args.given.year c.args.given.month c.args.given.day
is_real c = real (sym c.is_date.ensures ∙ c.if-not-is_date.false)

pub returns : goal.returns
unfolding day_number day_of
returns c =
    simp (
      sym c.is_date.ensures ∙ c.if-not-is_date.false,
      c.first_day-first.ensures,
      c.days_before-before.ensures,
      c.is_leap.ensures,
    )

pub returns-then-not-is_date : goal.returns-then-not-is_date
unfolding day_number
returns-then-not-is_date c = simp (sym c.is_date.ensures ∙ c.if-not-is_date.true)

pub overflow_sub-year : goal.overflow_sub-year
overflow_sub-year c = omega (arith, is_real c)

pub first_day-first-requires : goal.first_day-first-requires
first_day-first-requires c = omega (arith, is_real c)

pub overflow_sub-month : goal.overflow_sub-month
overflow_sub-month c = omega (arith, is_real c.before.before)

pub days_before-before-requires : goal.days_before-before-requires
days_before-before-requires c = omega (arith, is_real c.before.before)

pub overflow_add-result : goal.overflow_add-result
overflow_add-result c = omega (arith, is_real c.before.before.before, first_most (c.args.given.year - first_year))

pub overflow_sub-result : goal.overflow_sub-result
overflow_sub-result c = omega (arith, is_real c.before.before.before)

pub overflow_add-result-2 : goal.overflow_add-result-2
overflow_add-result-2 c = omega (arith, is_real c.before.before.before, first_most (c.args.given.year - first_year))
