-- Day numbers count dates one by one.
--
-- The date after a real date is real, but for 31 December 2199 (`next_is_date`), and its number is one more
-- (`next_counts_one`): within a month the day moves; at its end the days of the month have passed
-- (`month_up`); at the end of December the days of the year have (`twelve_months`, `year_up`).
-- Assumes nothing.
use Rattle.basics.proofs.Prelude.{◌≡◌, refl, sym, ap, ◌∙◌, true, ◌+◌, ◌-◌, ◌≤◌, ◌<◌, arith, eqb, ltb}
use Rattle.basics.proofs.Prelude.{eqb-true, eqb-false, ltb-true, ltb-false}
use native.Mathlib.Nat.{add-sub_cancel}
use Rattle.basics.proofs.Cases.{by_test}
use Rattle.calendar.specs.Calendar.{last_year, leap, month_length, days_before, day_of}
use Rattle.calendar.specs.declared.Date.{Date}
use Rattle.calendar.specs.Order.{date, last_date, is_real, number, month_days, next_date}
use Rattle.calendar.proofs.Dates.{real, bounds_date}
use Rattle.calendar.proofs.Counts.{month_up, year_up, twelve_months, month_least}

pub same_date : (one other : Date) → one.year ≡ other.year → one.month ≡ other.month
    → one.day ≡ other.day → one ≡ other
same_date one other same_year same_month same_day =
    λ i. record { year = same_year i; month = same_month i; day = same_day i }

-- the three cases of the next date, each with the place of the date
by_place {ℓ} : (P : Date → Type ℓ) (today : Date)
    → (today.day < month_days today → P (date today.year today.month (today.day + 1)))
    → (month_days today ≤ today.day → today.month < 12 → P (date today.year (today.month + 1) 1))
    → (month_days today ≤ today.day → 12 ≤ today.month → P (date (today.year + 1) 1 1))
    → P (next_date today)
unfolding next_date
by_place P today inside month year =
    by_test (ltb today.day (month_days today)) (λ e. rw e (inside (ltb-true _ _ e)))
    (λ e. rw e (by_test (ltb today.month 12) (λ e'. rw e' (month (ltb-false _ _ e) (ltb-true _ _ e')))
    (λ e'. rw e' (year (ltb-false _ _ e) (ltb-false _ _ e')))))

-- a date in December whose month is over, other than the last, is not in the last year
year_follows : (today : Date) → is_real today ≡ true → month_days today ≤ today.day → 12 ≤ today.month
    → (today ≡ last_date → ⊥) → today.year + 1 ≤ last_year
unfolding month_length
year_follows today e full december other =
    let bounds = real e in
    let month : today.month ≡ 12 = omega arith in
    let day : month_days today ≡ 31 = rw month refl in
    by_test (eqb today.year last_year)
    (λ same. absurd (other (same_date today last_date (eqb-true _ _ same) month (omega arith))))
    (λ differ. omega (arith, eqb-false today.year last_year differ))

pub next_is_date : (today : Date) → is_real today ≡ true → (today ≡ last_date → ⊥)
    → is_real (next_date today) ≡ true
next_is_date today e other =
    let bounds = real e in
    by_place (λ (next : Date). is_real next ≡ true) today
    (λ inside. bounds_date bounds.year_least bounds.year_most bounds.month_least bounds.month_most
    (omega arith) (omega arith))
    (λ full less. bounds_date bounds.year_least bounds.year_most (omega arith) (omega arith)
    (omega arith) (omega (arith, month_least (leap today.year) (today.month + 1))))
    (λ full december. bounds_date (omega arith) (year_follows today e full december other) (omega arith)
    (omega arith) (omega arith) (omega (arith, month_least (leap (today.year + 1)) 1)))

pub next_counts_one : (today : Date) → is_real today ≡ true → number (next_date today) ≡ number today + 1
unfolding day_of days_before
next_counts_one today e =
    let bounds = real e in
    by_place (λ (next : Date). number next ≡ number today + 1) today (λ inside. omega arith)
    (λ full less.
    rw (add-sub_cancel today.month 1)
    (omega (arith, month_up (leap today.year) today.month bounds.month_least)))
    (λ full december.
    let leap_year = leap today.year in
    let month : today.month ≡ 12 = omega arith in
    let days : days_before leap_year 12
    ≡ days_before leap_year (today.month - 1) + month_length leap_year today.month =
    ap (days_before leap_year) (sym month) ∙ month_up leap_year today.month bounds.month_least in
    omega (arith, year_up today.year bounds.year_least, twelve_months today.year))
