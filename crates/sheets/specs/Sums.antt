-- The digests of what C-12 says of one entry: what two renewals give, and where one by the sum of their years
-- gives something else.
--
-- In order: an answer as a number; one pair of lengths; all of them.
-- A reader of the public contracts needs none of it.
-- Assumes nothing.
use Rattle.std.specs.Prelude.{ℕ, ◌+◌, ◌-◌, cond, eqb, Result, Ok, Err}
use Rattle.refusal.specs.declared.Refusal.{Refusal}
use Rattle.refusal.specs.Numbers.{number_of}
use Rattle.licence.specs.Renewal.{most_years, renewed_of}
use Rattle.licence.specs.Sum.{renewed_twice}
use Rattle.sheets.specs.declared.sums.Sums.{Sums}
use Rattle.sheets.specs.Digest.{mixed, in_turn}

-- the entry, which is above every refusal's number, or the refusal's
abbrev pub answer_number : Result ℕ Refusal → ℕ
answer_number (Ok renewed) = renewed
answer_number (Err why) = number_of why

-- 0 where two numbers are the same
abbrev pub difference : ℕ → ℕ → ℕ
difference one other = cond (eqb one other) 0 1

-- by two lengths
unfoldable pub with_years : ℕ → ℕ → ℕ → Sums → Sums
with_years entry first second sums =
    let twice = answer_number (renewed_twice entry first second) in
    let once = answer_number (renewed_of entry (first + second)) in
    record {
      twice = mixed twice sums.twice;
      differing = mixed (difference twice once) sums.differing;
    }

-- by a first length, and each second one up to the most years together
abbrev pub with_seconds : ℕ → ℕ → Sums → Sums
with_seconds entry first sums = in_turn (λ (i : ℕ). with_years entry first (i + 1)) (most_years - first) sums

-- by each first length that leaves a year for the second
unfoldable pub with_sums : ℕ → Sums → Sums
with_sums entry sums = in_turn (λ (i : ℕ). with_seconds entry (i + 1)) (most_years - 1) sums
