-- Two renewals, and one by the sum of their years (02, C-12).
--
-- In order: a renewal of what a renewal gave; the one end that the law leaves out; the lengths that it is
-- about; the law, `SumLaw`, whose proof is proofs/Sum.antt.
-- Assumes nothing.
use Rattle.std.specs.Prelude.{◌≡◌, ℕ, ◌+◌, ◌≤◌, ◌<◌, Bool, true, false, ◌&&◌, eqb, Result, Ok, Err}
use Rattle.refusal.specs.declared.Refusal.{Refusal}
use Rattle.refusal.specs.Numbers.{numbered}
use Rattle.calendar.specs.Calendar.{last_year, leap}
use Rattle.licence.specs.declared.Fields.{Fields}
use Rattle.licence.specs.Entry.{fields_of, joined, is_licence, ending}
use Rattle.licence.specs.Renewal.{february, later, most_years, renewed_of}

-- an answer renewed: its entry is, and a refusal stays
abbrev pub renewed_again : Result ℕ Refusal → ℕ → Result ℕ Refusal
renewed_again (Ok entry) years = renewed_of entry years
renewed_again (Err why) years = Err why

-- renewed by some years, and then by some more
abbrev pub renewed_twice : ℕ → ℕ → ℕ → Result ℕ Refusal
renewed_twice entry first second = renewed_again (renewed_of entry first) second

-- the exception: the end is on 28 February of a leap year
unfoldable pub ends_on_28_in_leap_year : Fields → Bool
ends_on_28_in_leap_year fields = leap fields.year && eqb fields.month february && eqb fields.day 28

-- two lengths: each at least 1 year, their sum at most 10
pub record Lengths (first second : ℕ) : Type 0 where
  pub first_least : 1 ≤ first
  pub second_least : 1 ≤ second
  pub sum_most : first + second ≤ most_years

-- the law
pub record SumLaw : Type 0 where
  -- two renewals give what one by the sum gives, the same entry or the same refusal
  pub sum : (entry first second : ℕ) → is_licence entry ≡ true → Lengths first second
      → ends_on_28_in_leap_year (fields_of entry) ≡ false
      → renewed_twice entry first second ≡ renewed_of entry (first + second)
  -- up to 2199 that is an entry, the same licence with its end in the year of the sum
  pub reached : (entry first second : ℕ) → is_licence entry ≡ true → Lengths first second
      → (fields_of entry).year + (first + second) ≤ last_year
      → renewed_of entry (first + second)
      ≡ Ok (joined (later (fields_of entry) ((fields_of entry).year + (first + second))))
  -- where the sum passes 2199, both are refused 8, whatever the end
  pub passed : (entry first second : ℕ) → is_licence entry ≡ true → Lengths first second
      → last_year < (fields_of entry).year + (first + second)
      → (renewed_twice entry first second ≡ Err (numbered 8))
      × (renewed_of entry (first + second) ≡ Err (numbered 8))
  -- the exception is needed: 28 February 2028 by 1 and then 3 is 29 February 2032, by 4 it is the 28th
  pub by_1_and_3 : renewed_twice (joined (ending 2028 2 28)) 1 3 ≡ Ok (joined (ending 2032 2 29))
  pub by_4 : renewed_of (joined (ending 2028 2 28)) 4 ≡ Ok (joined (ending 2032 2 28))
