-- Dates in order: which of two is earlier, and the date after a date.
--
-- The laws over these say that day numbers count dates one by one, and so keep their order.
-- Assumes nothing.
use Rattle.std.specs.Prelude.{ℕ, ◌+◌, Bool, cond, ◌&&◌, ◌||◌, eqb, ltb}
use Rattle.calendar.specs.declared.Date.{Date}
use Rattle.calendar.specs.Calendar.{last_year, leap, month_length, is_date, day_of}

abbrev pub date : ℕ → ℕ → ℕ → Date
date year month day = record { year = year; month = month; day = day }

abbrev pub last_date : Date
last_date = date last_year 12 31

-- its day number
abbrev pub last_number : ℕ
last_number = 109573

abbrev pub is_real : Date → Bool
is_real given = is_date given.year given.month given.day

abbrev pub number : Date → ℕ
number given = day_of given.year given.month given.day

-- how many days its month has
abbrev pub month_days : Date → ℕ
month_days given = month_length (leap given.year) given.month

-- by year, then month, then day
unfoldable pub earlier : Date → Date → Bool
earlier first second =
    ltb first.year second.year
    || eqb first.year second.year
    && (ltb first.month second.month
    || eqb first.month second.month && ltb first.day second.day)

-- the next day of the month, or the first of the next month, or 1 January of the next year
unfoldable pub next_date : Date → Date
next_date today =
    cond (ltb today.day (month_days today)) (date today.year today.month (today.day + 1))
    (cond (ltb today.month 12) (date today.year (today.month + 1) 1) (date (today.year + 1) 1 1))
