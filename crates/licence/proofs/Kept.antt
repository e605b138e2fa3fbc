-- The rules of renewal: which day is kept (02, C-12), and how many years 0 means, which C-16 changes.
--
-- An end on the last day of February falls on the last one again (`last_stays`), and every other day stays
-- (`day_stays`): so in every other month (`other_month_stays`), and on 28 February of a leap year
-- (`leap_28_stays`). Either way it is a day of its month in the new year (`kept_real`): only February's
-- length depends on the year, and a day before February's last is one that every February has.
-- Assumes nothing.
use Rattle.basics.proofs.Prelude.{◌≡◌, refl, ◌∙◌, ◌≢◌, Bool, true, false, ℕ, ◌≤◌, ◌<◌, arith, eqb}
use Rattle.basics.proofs.Prelude.{eqb-true, eqb-false, eq-eqb, ne_eqb}
use Rattle.basics.proofs.Cases.{by_test, both, both_of, true_or_false}
use Rattle.basics.proofs.UpTo.{never}
use Rattle.calendar.specs.Calendar.{first_year, last_year, leap, month_length}
use Rattle.calendar.proofs.Dates.{Real}
use Rattle.calendar.proofs.Counts.{month_least}
use Rattle.licence.specs.declared.Fields.{Fields}
use Rattle.licence.specs.Renewal.{span, february, last_of_february, ends_on_last_of_february, kept_day}

pub span_zero : span 0 ≡ 1
unfolding span
span_zero = refl

pub span_given : (years : ℕ) → 1 ≤ years → span years ≡ years
unfolding span
span_given years h = rw (ne_eqb years 0 (λ e. omega arith))

-- February's last day, by the year
module _ (year : ℕ) where
  pub last_in_leap_year : leap year ≡ true → last_of_february year ≡ 29
  unfolding last_of_february month_length
  last_in_leap_year l = rw l

  pub last_in_common_year : leap year ≡ false → last_of_february year ≡ 28
  unfolding last_of_february month_length
  last_in_common_year l = rw l

  last_most : last_of_february year ≤ 29
  last_most =
      by_test (leap year) (λ l. omega (arith, last_in_leap_year l))
      (λ l. omega (arith, last_in_common_year l))

  pub last_least : 28 ≤ last_of_february year
  unfolding last_of_february
  last_least = month_least (leap year) february

-- only February's length depends on the year
other_month : (leap_year other_year : Bool) (month : ℕ) → month ≢ february
    → month_length leap_year month ≡ month_length other_year month
unfolding month_length
other_month leap_year other_year month h = rw (ne_eqb month february h)

february_length : (month year : ℕ) → month ≡ february → month_length (leap year) month ≡ last_of_february year
unfolding last_of_february
february_length month year e = rw e

-- an end on the last day of February, by month and day
module _ (fields : Fields) where
  abbrev Last : Type 0
  Last = (fields.month ≡ february) × (fields.day ≡ last_of_february fields.year)

  pub last_parts : ends_on_last_of_february fields ≡ true → Last
  unfolding ends_on_last_of_february
  last_parts t =
      let p = both (eqb fields.month february) (eqb fields.day (last_of_february fields.year)) t in
      (eqb-true _ _ p.0, eqb-true _ _ p.1)

  pub last_of : Last → ends_on_last_of_february fields ≡ true
  unfolding ends_on_last_of_february
  last_of h =
      both_of (eqb fields.month february) (eqb fields.day (last_of_february fields.year))
      (eq-eqb _ _ h.0) (eq-eqb _ _ h.1)

  pub not_last : (Last → ⊥) → ends_on_last_of_february fields ≡ false
  not_last h = never (ends_on_last_of_february fields) (λ t. h (last_parts t))

  -- a day of February that is not the last is before it
  pub before_last : Real fields.year fields.month fields.day → ends_on_last_of_february fields ≡ false
      → fields.month ≡ february → fields.day < last_of_february fields.year
  before_last bounds f m =
      let other : fields.day ≢ last_of_february fields.year = λ d. true_or_false _ (last_of (m, d)) f in
      omega (arith, bounds.day_most, february_length fields.month fields.year m)

-- the day that is kept
module _ (fields : Fields) (year : ℕ) where
  pub last_stays : ends_on_last_of_february fields ≡ true → kept_day fields year ≡ last_of_february year
  unfolding kept_day
  last_stays t = rw t

  pub day_stays : ends_on_last_of_february fields ≡ false → kept_day fields year ≡ fields.day
  unfolding kept_day
  day_stays f = rw f

  pub other_month_stays : fields.month ≢ february → kept_day fields year ≡ fields.day
  other_month_stays h = day_stays (not_last fields (λ p. h p.0))

  -- 28 February of a leap year is not the last
  pub leap_28_stays : leap fields.year ≡ true → fields.day ≡ 28 → kept_day fields year ≡ 28
  leap_28_stays l d =
      day_stays (not_last fields (λ p. omega (arith, d, p.1, last_in_leap_year fields.year l))) ∙ d

  module _ (bounds : Real fields.year fields.month fields.day) where
    abbrev Within : Type 0
    Within = (1 ≤ kept_day fields year) × (kept_day fields year ≤ month_length (leap year) fields.month)

    within_last : ends_on_last_of_february fields ≡ true → Within
    within_last t =
        let new = february_length fields.month year (last_parts fields t).0 in
        (omega (arith, last_stays t, last_least year), omega (arith, last_stays t, new))

    within_february : ends_on_last_of_february fields ≡ false → fields.month ≡ february → Within
    within_february f m =
        let new = february_length fields.month year m in
        let before = before_last fields bounds f m in (
          omega (arith, day_stays f, bounds.day_least),
          omega (arith, day_stays f, before, new, last_least year, last_most fields.year),
        )

    within_other : ends_on_last_of_february fields ≡ false → fields.month ≢ february → Within
    within_other f m =
        let same = other_month (leap year) (leap fields.year) fields.month m in
        (omega (arith, day_stays f, bounds.day_least), omega (arith, day_stays f, bounds.day_most, same))

    within : Within
    within =
        by_test (ends_on_last_of_february fields) within_last
        (λ f. by_test (eqb fields.month february) (λ m. within_february f (eqb-true _ _ m))
        (λ m. within_other f (eqb-false _ _ m)))

  pub kept_real : Real fields.year fields.month fields.day → first_year ≤ year → year ≤ last_year
      → Real year fields.month (kept_day fields year)
  kept_real bounds least most =
      record {
        year_least = least;
        year_most = most;
        month_least = bounds.month_least;
        month_most = bounds.month_most;
        day_least = (within bounds).0;
        day_most = (within bounds).1;
      }
