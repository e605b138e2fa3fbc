-- Digits as text: 0 to 9, then A to F.
-- Assumes nothing.
use Rattle.std.specs.Prelude.{ℕ, ◌+◌, cond, ltb}

-- the digit of a value below 16: 48 is the code of '0', and 55 + 10 that of 'A'
abbrev pub hex_digit : ℕ → ℕ
hex_digit value = cond (ltb value 10) (48 + value) (55 + value)
