-- What a real date is, by its bounds.
--
-- The tests of `is_date` all pass exactly when each bound holds (`real`, `real_date`): where the first five
-- hold the last test decides (`last_test`). So where one bound fails there is no date (`no_date`).
-- Assumes nothing.
use Rattle.basics.proofs.Prelude.{◌≡◌, ◌∙◌, true, false, ℕ, ◌≤◌, leb, leb-true, le-leb}
use mathlib.Core.Bool.{and-true}
use Rattle.basics.proofs.Cases.{by_test}
use Rattle.basics.proofs.Tests.{each}
use Rattle.calendar.specs.Calendar.{first_year, last_year, leap, month_length, date_tests, is_date}

-- the bounds of a real date
pub record Real (year month day : ℕ) : Type 0 where
  pub year_least : first_year ≤ year
  pub year_most : year ≤ last_year
  pub month_least : 1 ≤ month
  pub month_most : month ≤ 12
  pub day_least : 1 ≤ day
  pub day_most : day ≤ month_length (leap year) month

module _ {year month day : ℕ} where
  pub real : is_date year month day ≡ true → Real year month day
  unfolding is_date
  real e =
      let p = each (date_tests year month day) e in
      record {
        year_least = leb-true _ _ p.0;
        year_most = leb-true _ _ p.1.0;
        month_least = leb-true _ _ p.1.1.0;
        month_most = leb-true _ _ p.1.1.1.0;
        day_least = leb-true _ _ p.1.1.1.1.0;
        day_most = leb-true _ _ p.1.1.1.1.1.0;
      }

  pub last_test : first_year ≤ year → year ≤ last_year → 1 ≤ month → month ≤ 12 → 1 ≤ day
      → is_date year month day ≡ leb day (month_length (leap year) month)
  unfolding is_date
  last_test year_low year_high month_low month_high day_low =
      rw (
        le-leb first_year year year_low,
        le-leb year last_year year_high,
        le-leb 1 month month_low,
        le-leb month 12 month_high,
        le-leb 1 day day_low,
      )
      (and-true _)

  pub bounds_date : first_year ≤ year → year ≤ last_year → 1 ≤ month → month ≤ 12 → 1 ≤ day
      → day ≤ month_length (leap year) month → is_date year month day ≡ true
  bounds_date year_low year_high month_low month_high day_low day_high =
      last_test year_low year_high month_low month_high day_low ∙ le-leb _ _ day_high

  pub real_date : Real year month day → is_date year month day ≡ true
  real_date bounds =
      bounds_date bounds.year_least bounds.year_most bounds.month_least bounds.month_most
      bounds.day_least bounds.day_most

  pub no_date : (Real year month day → ⊥) → is_date year month day ≡ false
  no_date broken = by_test (is_date year month day) (λ e. absurd (broken (real e))) (λ e. e)
