-- `is_date`: each early return breaks a bound of a real date; behind them the last test decides.
use Rattle.basics.proofs.Prelude.{◌≡◌, sym, ◌∙◌, arith, leb}
use Rattle.calendar.specs.Calendar.{leap, month_length}
use Rattle.calendar.proofs.Dates.{no_date, last_test}
use Rattle.calendar.proofs.is_date.Goals as goal

pub returns : goal.returns
returns c =
    let a = c.args.given in
    let e : leb a.day c.month_length.result ≡ leb a.day (month_length (leap a.year) a.month) = cc in
    e ∙ sym (last_test (omega arith) (omega arith) (omega arith) (omega arith) (omega arith))

pub returns-then-year-lt-FIRST_YEAR : goal.returns-then-year-lt-FIRST_YEAR
returns-then-year-lt-FIRST_YEAR c =
    sym (no_date (λ r. elim c.then-year-lt-FIRST_YEAR.branch [
      | goal.then-year-lt-FIRST_YEAR-via-then-year-lt-FIRST_YEAR w ↦ omega arith
      | goal.then-year-lt-FIRST_YEAR-via-else-year-lt-FIRST_YEAR+then-year-gt-LAST_YEAR w ↦ omega arith
    ]))

pub returns-then-month-lt1 : goal.returns-then-month-lt1
returns-then-month-lt1 c =
    sym (no_date (λ r. elim c.then-month-lt1.branch [
      | goal.then-month-lt1-via-then-month-lt1 w ↦ omega arith
      | goal.then-month-lt1-via-else-month-lt1+then-month-gt12 w ↦ omega arith
    ]))

pub returns-then-day-lt1 : goal.returns-then-day-lt1
returns-then-day-lt1 c = sym (no_date (λ r. omega arith))
