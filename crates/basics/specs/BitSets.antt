-- Sets of numbers from 1 on, as the bits of one number.
-- Assumes nothing.
use Rattle.std.specs.Prelude.{ℕ, zero, suc, ◌+◌, ◌*◌, ◌/◌, ◌%◌, ◌^◌, Bool, false, eqb}
use mir.Val.{bool_byte}

-- number k is in the set: its bit is the k-th from the low end
unfoldable pub contains : ℕ → ℕ → Bool
contains set zero = false
contains set (suc i) = eqb (set / 2 ^ i % 2) 1

-- the set of those of 1 to n that pass a test
unfoldable pub set_of : (ℕ → Bool) → ℕ → ℕ
set_of test zero = 0
set_of test (suc n) = set_of test n + bool_byte (test (suc n)) * 2 ^ n
