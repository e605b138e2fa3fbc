-- Counting up: the day numbers of the next month and of the next year, and that neither count falls.
--
-- A month adds its length to the days before it (`month_up`), a year its length to its first day (`year_up`),
-- and twelve months are the year (`twelve_months`). Both counts grow (`before_grows`, `first_grows`), and a
-- month has 28 days or more.
-- Assumes nothing.
use Rattle.basics.proofs.Prelude.{◌≡◌, refl, ap, ◌∙◌, Bool, true, false, cond, ◌||◌, ℕ, zero, suc, ◌+◌, ◌-◌}
use Rattle.basics.proofs.Prelude.{◌≤◌, le_refl, not-suc-le-zero, arith, eqb, leb, leb-true, leb-false}
use Rattle.basics.proofs.Cases.{by_test}
use Rattle.calendar.specs.Calendar.{first_year, leap, year_length, first_day, month_length, days_before}

pub month_up : (leap_year : Bool) (month : ℕ) → 1 ≤ month
    → days_before leap_year month ≡ days_before leap_year (month - 1) + month_length leap_year month
unfolding days_before
month_up leap_year zero h = absurd (not-suc-le-zero h)
month_up leap_year (suc k) h =
    let back : k ≡ suc k - 1 = omega arith in
    ap (λ (j : ℕ). days_before leap_year j + month_length leap_year (suc k)) back

pub year_up : (year : ℕ) → first_year ≤ year
    → first_day (year + 1 - first_year) ≡ first_day (year - first_year) + year_length year
unfolding first_day
year_up year h =
    let k = year - first_year in
    let next : year + 1 - first_year ≡ suc k = omega arith in
    let back : first_year + k ≡ year = omega arith in
    ap first_day next ∙ ap (λ (y : ℕ). first_day k + year_length y) back

pub twelve_months : (year : ℕ) → days_before (leap year) 12 ≡ year_length year
unfolding days_before month_length year_length
twelve_months year = by_test (leap year) (λ e. rw e refl) (λ e. rw e refl)

-- what never falls by one never falls
grows : (f : ℕ → ℕ) → ((k : ℕ) → f k ≤ f (suc k)) → (j k : ℕ) → j ≤ k → f j ≤ f k
grows f step j zero h = let e : j ≡ 0 = omega arith in rw e (le_refl _)
grows f step j (suc k) h =
    by_test (leb j k) (λ e. let less = leb-true j k e in omega (arith, grows f step j k less, step k))
    (λ e. let same : j ≡ suc k = omega (arith, leb-false j k e) in rw same (le_refl _))

pub before_grows : (leap_year : Bool) (j k : ℕ) → j ≤ k → days_before leap_year j ≤ days_before leap_year k
unfolding days_before
before_grows leap_year = grows (days_before leap_year) (λ k. omega arith)

pub first_grows : (j k : ℕ) → j ≤ k → first_day j ≤ first_day k
unfolding first_day
first_grows = grows first_day (λ k. omega arith)

cond_least : (b : Bool) (x y n : ℕ) → n ≤ x → n ≤ y → n ≤ cond b x y
cond_least true x y n p q = p
cond_least false x y n p q = q

pub month_least : (leap_year : Bool) (month : ℕ) → 28 ≤ month_length leap_year month
unfolding month_length
month_least leap_year month =
    cond_least (eqb month 2) _ _ 28 (cond_least leap_year 29 28 28 (omega arith) (omega arith))
    (cond_least (eqb month 4 || eqb month 6 || eqb month 9 || eqb month 11) 30 31 28
    (omega arith) (omega arith))
