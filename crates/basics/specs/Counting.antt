-- Counting: how many numbers below n pass a test.
-- Assumes nothing.
use Rattle.std.specs.Prelude.{ℕ, zero, suc, ◌+◌, ◌<◌, ◌≡◌, Bool}
use mir.Val.{bool_byte}

-- how many of 0 .. n - 1 pass
unfoldable pub count_below : (ℕ → Bool) → ℕ → ℕ
count_below test zero = 0
count_below test (suc n) = count_below test n + bool_byte (test n)

-- a count of the calls of a closure: where the calls give what a test says, it is how many of 0 .. n - 1 pass
abbrev pub Counts : (ℕ → Bool → Type 0) → ℕ → ℕ → Type 0
Counts Gives n count =
    (test : ℕ → Bool) → ((i : ℕ) (answer : Bool) → i < n → Gives i answer → answer ≡ test i)
    → count ≡ count_below test n
