-- Day numbers keep the order of dates, both ways, and are one to one.
--
-- Within a year the number stays below the year's end (`below_year_end`), and within a month below the
-- month's end (`below_month_end`), and both counts grow; so an earlier date has a lower number
-- (`order_kept`). Of two dates one is earlier or they are the same (`compared`), so a lower number belongs to
-- an earlier date (`order_back`) and a number to one date (`one_to_one`). The bounds are the numbers of the
-- first date and the last (`in_range_lem`).
-- Assumes nothing.
use Rattle.basics.proofs.Prelude.{◌≡◌, refl, sym, ap, true, ◌⊎◌, inl, inr, ℕ, ◌+◌, ◌-◌, ◌≤◌, ◌<◌, arith, eqb}
use Rattle.basics.proofs.Prelude.{ltb, eqb-true, eq-eqb, ltb-true, ltb-false, lt-ltb, le-ltb}
use Rattle.basics.proofs.Cases.{by_test, by_either, both, one_holds}
use Rattle.calendar.specs.Calendar.{first_year, year_count, leap, year_length, first_day, days_before, day_of}
use Rattle.calendar.specs.declared.Date.{Date}
use Rattle.calendar.specs.Order.{last_number, is_real, number, earlier}
use Rattle.calendar.proofs.Dates.{Real, real}
use Rattle.calendar.proofs.Counts.{month_up, year_up, twelve_months, before_grows, first_grows}
use Rattle.calendar.proofs.Next.{same_date}

module _ (given : Date) (bounds : Real given.year given.month given.day) where
  -- the days of the year that have passed stay below the end of the month
  below_month_end : days_before (leap given.year) (given.month - 1) + (given.day - 1)
      < days_before (leap given.year) given.month
  below_month_end = omega (arith, bounds, month_up (leap given.year) given.month bounds.month_least)

  below_year_end : number given < first_day (given.year + 1 - first_year)
  unfolding day_of
  below_year_end =
      omega (
        arith,
        below_month_end,
        before_grows (leap given.year) given.month 12 bounds.month_most,
        twelve_months given.year,
        year_up given.year bounds.year_least,
      )

-- the ways to be earlier
data Earlier (first second : Date) : Type 0 where
  by_year : first.year < second.year → Earlier first second
  by_month : first.year ≡ second.year → first.month < second.month → Earlier first second
  by_day : first.year ≡ second.year → first.month ≡ second.month → first.day < second.day
      → Earlier first second

ways : (first second : Date) → earlier first second ≡ true → Earlier first second
unfolding earlier
ways first second e =
    by_either (one_holds (ltb first.year second.year) _ e) (λ y. by_year (ltb-true _ _ y))
    (λ p. let q = both (eqb first.year second.year) _ p in
    by_either (one_holds (ltb first.month second.month) _ q.1)
    (λ m. by_month (eqb-true _ _ q.0) (ltb-true _ _ m))
    (λ o. let d = both (eqb first.month second.month) _ o in
    by_day (eqb-true _ _ q.0) (eqb-true _ _ d.0) (ltb-true _ _ d.1)))

ways_back : (first second : Date) → Earlier first second → earlier first second ≡ true
unfolding earlier
ways_back first second (by_year y) = rw (lt-ltb _ _ y) refl
ways_back first second (by_month y m) =
    rw (le-ltb first.year second.year (omega arith), eq-eqb first.year second.year y)
    (rw (lt-ltb first.month second.month m) refl)
ways_back first second (by_day y m d) =
    rw (
      le-ltb first.year second.year (omega arith),
      eq-eqb first.year second.year y,
      le-ltb first.month second.month (omega arith),
      eq-eqb first.month second.month m,
      lt-ltb first.day second.day d,
    )
    refl

-- dates of one year have its first day and its months in common
january : (first second : Date) → first.year ≡ second.year
    → first_day (first.year - first_year) ≡ first_day (second.year - first_year)
january first second y = ap (λ (n : ℕ). first_day (n - first_year)) y

months : (first second : Date) (k : ℕ) → first.year ≡ second.year
    → days_before (leap first.year) k ≡ days_before (leap second.year) k
months first second k y = ap (λ (n : ℕ). days_before (leap n) k) y

kept : (first second : Date) → Real first.year first.month first.day
    → Real second.year second.month second.day → Earlier first second
    → number first < number second
unfolding day_of
kept first second real_first real_second (by_year y) =
    let grows = first_grows (first.year + 1 - first_year) (second.year - first_year) (omega arith) in
    omega (arith, below_year_end first real_first, grows)
kept first second real_first real_second (by_month y m) =
    let grows = before_grows (leap first.year) first.month (second.month - 1) (omega arith) in
    omega (
      arith,
      january first second y,
      months first second (second.month - 1) y,
      below_month_end first real_first,
      grows,
    )
kept first second real_first real_second (by_day y m d) =
    let month : days_before (leap second.year) (first.month - 1)
    ≡ days_before (leap second.year) (second.month - 1) =
    ap (λ (n : ℕ). days_before (leap second.year) (n - 1)) m in
    omega (arith, january first second y, months first second (first.month - 1) y, real_first.day_least)

-- which of two numbers is lower, or that they are the same
by_order {ℓ} : {C : Type ℓ} (a b : ℕ) → (a < b → C) → (a ≡ b → C) → (b < a → C) → C
by_order a b less same more =
    by_test (ltb a b) (λ e. less (ltb-true a b e))
    (λ e. by_test (ltb b a) (λ e'. more (ltb-true b a e'))
    (λ e'. same (omega (arith, ltb-false a b e, ltb-false b a e'))))

compared : (first second : Date) → Earlier first second ⊎ ((first ≡ second) ⊎ Earlier second first)
compared first second =
    by_order first.year second.year (λ y. inl (by_year y))
    (λ y. by_order first.month second.month (λ m. inl (by_month y m))
    (λ m. by_order first.day second.day (λ d. inl (by_day y m d))
    (λ d. inr (inl (same_date first second y m d)))
    (λ d. inr (inr (by_day (sym y) (sym m) d))))
    (λ m. inr (inr (by_month (sym y) m))))
    (λ y. inr (inr (by_year y)))

module _ (first second : Date) (p : is_real first ≡ true) (q : is_real second ≡ true) where
  pub order_kept : earlier first second ≡ true → number first < number second
  order_kept e = kept first second (real p) (real q) (ways first second e)

  pub order_back : number first < number second → earlier first second ≡ true
  order_back h =
      by_either (compared first second) (λ w. ways_back first second w)
      (λ o. absurd (by_either o (λ e. omega (arith, ap number e))
      (λ w. omega (arith, kept second first (real q) (real p) w))))

  pub one_to_one : number first ≡ number second → first ≡ second
  one_to_one h =
      by_either (compared first second) (λ w. absurd (omega (arith, kept first second (real p) (real q) w)))
      (λ o. by_either o (λ e. e) (λ w. absurd (omega (arith, kept second first (real q) (real p) w))))

pub in_range_lem : (given : Date) → is_real given ≡ true → (1 ≤ number given) × (number given ≤ last_number)
unfolding day_of first_day year_length leap
in_range_lem given e =
    let bounds = real e in
    let end : first_day year_count ≡ last_number + 1 = refl in (
      omega (arith, first_grows 0 (given.year - first_year) (omega arith)),
      omega (
        arith,
        below_year_end given bounds,
        first_grows (given.year + 1 - first_year) year_count (omega arith),
      ),
    )
