-- Tests in a row, all of which must pass; and the test of a number from 1 to n.
-- Assumes nothing.
use Rattle.std.specs.Prelude.{ℕ, zero, suc, Bool, true, ◌&&◌, List, [], ◌∷◌, leb}

-- every test of the list passes
abbrev pub all_pass : List Bool → Bool
all_pass [] = true
all_pass (test ∷ tests) = test && all_pass tests

-- every number below n passes a test
unfoldable pub all_below : (ℕ → Bool) → ℕ → Bool
all_below test zero = true
all_below test (suc n) = all_below test n && test n

-- k is one of the numbers 1 to n
abbrev pub is_up_to : ℕ → ℕ → Bool
is_up_to n k = leb 1 k && leb k n
