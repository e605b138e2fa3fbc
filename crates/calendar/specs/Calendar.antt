-- The Gregorian calendar by rule (01, section 'Entry and calendar').
--
-- In order: the years of the calendar; leap years; years and months, their lengths and the days before them,
-- each counted from the one before; real dates; the day number of a date, and the answer for any three
-- numbers. The stored tables are not here: they are proved to follow these rules.
-- Assumes nothing.
use Rattle.std.specs.Prelude.{ℕ, zero, suc, ◌+◌, ◌-◌, ◌%◌, Bool, cond, not, ◌&&◌, ◌||◌, List, [], ◌∷◌, eqb, leb, Result}
use Rattle.basics.specs.Tests.{all_pass}
use Rattle.refusal.specs.declared.Refusal.{Refusal}
use Rattle.refusal.specs.Ladder.{◌whenever◌, lowest, or_refused}

-- the years of the calendar, and how many there are: 300
abbrev pub first_year : ℕ
first_year = 1900

abbrev pub last_year : ℕ
last_year = 2199

abbrev pub year_count : ℕ
year_count = last_year + 1 - first_year

-- every fourth year, but of the hundreds only every fourth
unfoldable pub leap : ℕ → Bool
leap year = eqb (year % 4) 0 && (not (eqb (year % 100) 0) || eqb (year % 400) 0)

unfoldable pub year_length : ℕ → ℕ
year_length year = cond (leap year) 366 365

-- the day number of 1 January, so many years after the first: 1 January 1900 is day 1
unfoldable pub first_day : ℕ → ℕ
first_day zero = 1
first_day (suc years) = first_day years + year_length (first_year + years)

-- the days of a month, counted from 1, of a leap year or another
unfoldable pub month_length : Bool → ℕ → ℕ
month_length leap_year month =
    cond (eqb month 2) (cond leap_year 29 28)
    (cond (eqb month 4 || eqb month 6 || eqb month 9 || eqb month 11) 30 31)

-- the days of the first so many months
unfoldable pub days_before : Bool → ℕ → ℕ
days_before leap_year zero = 0
days_before leap_year (suc months) = days_before leap_year months + month_length leap_year (suc months)

-- what makes a date real: a year of the calendar, a month, a day of that month; months and days are counted
-- from 1
abbrev pub date_tests : ℕ → ℕ → ℕ → List Bool
date_tests year month day =
    leb first_year year ∷ leb year last_year ∷ leb 1 month ∷ leb month 12
    ∷ leb 1 day ∷ leb day (month_length (leap year) month) ∷ []

unfoldable pub is_date : ℕ → ℕ → ℕ → Bool
is_date year month day = all_pass (date_tests year month day)

-- the day number of a real date
unfoldable pub day_of : ℕ → ℕ → ℕ → ℕ
day_of year month day = first_day (year - first_year) + days_before (leap year) (month - 1) + (day - 1)

-- the 'day number', or refused 8, 'no such entry', for what is no real date
unfoldable pub day_number : ℕ → ℕ → ℕ → Result ℕ Refusal
day_number year month day =
    or_refused (lowest (8 whenever not (is_date year month day) ∷ [])) (day_of year month day)
