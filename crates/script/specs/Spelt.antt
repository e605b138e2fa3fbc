-- The bytes of a quoted text. A letter's byte is its `code`.
-- Assumes nothing.
use Rattle.std.specs.Prelude.{List, [], ◌∷◌, ℕ}
use Prim.Native.Char.{code}
use Prim.Native.String as string

-- of letters, digits, blanks and line ends, each of one byte
abbrev pub spelt : string.String → List ℕ
spelt string.[] = []
spelt (string.◌∷◌ letter rest) = code letter ∷ spelt rest
