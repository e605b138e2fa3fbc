-- Lists made of values or of rows, one behind the other, and parts of a list.
-- Assumes nothing.
use Rattle.std.specs.Prelude.{ℕ, zero, suc, ◌+◌, List, [], ◌∷◌, ◌++◌, take, drop}

module _ {A : Type 0} where
  -- value 0, value 1 and so on, n of them
  unfoldable pub listed : (ℕ → A) → ℕ → List A
  listed value zero = []
  listed value (suc n) = listed value n ++ value n ∷ []

  -- row 0, row 1 and so on, n rows one behind the other
  unfoldable pub tabled : (ℕ → List A) → ℕ → List A
  tabled row zero = []
  tabled row (suc n) = tabled row n ++ row n

  -- so many values from `at` on
  abbrev pub part_at : ℕ → ℕ → List A → List A
  part_at at width list = take width (drop at list)

  -- a part in place of so many values from `at` on
  abbrev pub put_part : ℕ → ℕ → List A → List A → List A
  put_part at width list part = take at list ++ part ++ drop (at + width) list
