-- Bounds of the lengths of months and years, and of the first day of a year.
-- Assumes nothing.
use Rattle.basics.proofs.Prelude.{Bool, true, false, cond, ◌||◌, ℕ, zero, suc, ◌+◌, ◌*◌, ◌≤◌, arith, eqb}
use Rattle.calendar.specs.Calendar.{first_year, leap, year_length, first_day, month_length}

-- one of two numbers that a number bounds
cond_le : (b : Bool) (x y n : ℕ) → x ≤ n → y ≤ n → cond b x y ≤ n
cond_le true x y n p q = p
cond_le false x y n p q = q

pub month_most : (leap_year : Bool) (month : ℕ) → month_length leap_year month ≤ 31
unfolding month_length
month_most leap_year month =
    cond_le (eqb month 2) _ _ 31 (cond_le leap_year 29 28 31 (omega arith) (omega arith))
    (cond_le (eqb month 4 || eqb month 6 || eqb month 9 || eqb month 11) 30 31 31 (omega arith) (omega arith))

pub year_most : (year : ℕ) → year_length year ≤ 366
unfolding year_length
year_most year = cond_le (leap year) 366 365 366 (omega arith) (omega arith)

pub first_most : (k : ℕ) → first_day k ≤ 1 + 366 * k
unfolding first_day
first_most zero = omega arith
first_most (suc k) = omega (arith, first_most k, year_most (first_year + k))
