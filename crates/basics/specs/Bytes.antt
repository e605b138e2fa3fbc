-- Numbers as bytes, most significant first.
-- Assumes nothing.
use Rattle.std.specs.Prelude.{ℕ, zero, suc, ◌+◌, ◌*◌, ◌/◌, ◌%◌, ◌^◌, List, [], ◌∷◌}

-- the last k bytes of a number
unfoldable pub big_endian : ℕ → ℕ → List ℕ
big_endian zero number = []
big_endian (suc k) number = number / 256 ^ k % 256 ∷ big_endian k number

-- the number that bytes spell behind another number
unfoldable pub spelt : ℕ → List ℕ → ℕ
spelt before [] = before
spelt before (byte ∷ rest) = spelt (before * 256 + byte) rest
