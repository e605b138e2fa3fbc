-- The answer `day_number` by cases: the number of a real date, 8 for anything else.
--
-- `day_given` and `day_refused` read it forwards; `day_is` reads it back; `day_range` and `day_small` bound
-- it, for sums and signed differences.
-- Assumes nothing.
use Rattle.basics.proofs.Prelude.{◌≡◌, true, false, ℕ, ◌^◌, ◌≤◌, ◌<◌, arith}
use Rattle.basics.proofs.Cases.{by_test}
use Rattle.refusal.specs.Numbers.{numbered}
use Rattle.calendar.specs.Calendar.{is_date, day_of, day_number}
use Rattle.std.specs.Prelude.{Ok, Err}
use Rattle.calendar.specs.Order.{date, last_number}
use Rattle.calendar.proofs.Order.{in_range_lem}

module _ (year month day : ℕ) where
  pub day_given : is_date year month day ≡ true → day_number year month day ≡ Ok (day_of year month day)
  unfolding day_number
  day_given e = rw e

  pub day_refused : is_date year month day ≡ false → day_number year month day ≡ Err (numbered 8)
  unfolding day_number
  day_refused e = rw e

  -- an answer with a number: the date is real and the number is its
  pub day_is : (answer : ℕ) → day_number year month day ≡ Ok answer
      → (is_date year month day ≡ true) × (day_of year month day ≡ answer)
  day_is answer e =
      by_test (is_date year month day) (λ yes. (yes, let given = day_given yes in cc))
      (λ broken. absurd (let refused = day_refused broken in let z : ◌≡◌ {A = ℕ} 0 1 = cc in omega arith))

  pub day_range : (answer : ℕ) → day_number year month day ≡ Ok answer → (1 ≤ answer) × (answer ≤ last_number)
  day_range answer e =
      let is = day_is answer e in
      let range = in_range_lem (date year month day) is.0 in
      (omega (arith, is.1, range.0), omega (arith, is.1, range.1))

  pub day_small : (answer : ℕ) → day_number year month day ≡ Ok answer → answer < 2 ^ 31
  day_small answer e = let range = day_range answer e in omega (arith, range.1)
