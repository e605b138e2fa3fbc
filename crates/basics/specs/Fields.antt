-- Fields of bits in a number.
-- Assumes nothing.
use Rattle.std.specs.Prelude.{ℕ, ◌*◌, ◌/◌, ◌%◌, ◌^◌}

-- the place of a field: its width in bits, and how many bits stand below it
pub record Place : Type 0 where
  pub width : ℕ
  pub offset : ℕ

-- the field at a place of a number
abbrev pub field : Place → ℕ → ℕ
field place number = number / 2 ^ place.offset % 2 ^ place.width

-- a value moved to a place
abbrev pub placed : Place → ℕ → ℕ
placed place value = value * 2 ^ place.offset
