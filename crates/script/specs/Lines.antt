-- A script cut into lines, and a line into words.
--
-- In order: what stands before and behind a byte; where a line ends; the lines of a script, and the whole
-- lines of a text; the start of a line that is kept while the rest is read.
-- Assumes nothing.
use Prim.Native.Char.{code}
use Rattle.std.specs.Prelude.{ℕ, ◌+◌, ◌-◌, Bool, true, false, cond, List, [], ◌∷◌, eqb, length, take, drop, Option, Some, None}

-- the bytes before the first stop, and those behind it, if there is one
unfoldable pub up_to : ℕ → List ℕ → List ℕ
up_to stop [] = []
up_to stop (byte ∷ rest) = cond (eqb byte stop) [] (byte ∷ up_to stop rest)

unfoldable pub behind : ℕ → List ℕ → Option (List ℕ)
behind stop [] = None
behind stop (byte ∷ rest) = cond (eqb byte stop) (Some rest) (behind stop rest)

-- the byte that ends a line
abbrev pub newline : ℕ
newline = code "\n"

-- where the line that begins at a place ends, or the text does
abbrev pub line_end : List ℕ → ℕ → ℕ
line_end text at = at + length (up_to newline (drop at text))

-- a byte at the front of the first line; where there is none, it begins one if a last line needs no end
abbrev pub in_front : Bool → ℕ → List (List ℕ) → List (List ℕ)
in_front unended byte [] = cond unended ((byte ∷ []) ∷ []) []
in_front unended byte (line ∷ lines) = (byte ∷ line) ∷ lines

-- only a newline ends a line; a last line without its end is one too, or is not
unfoldable pub lines_by : Bool → List ℕ → List (List ℕ)
lines_by unended [] = []
lines_by unended (byte ∷ rest) =
    cond (eqb byte newline) ([] ∷ lines_by unended rest) (in_front unended byte (lines_by unended rest))

-- the lines of a script: the last line needs no end
abbrev pub lines_of : List ℕ → List (List ℕ)
lines_of text = lines_by true text

-- the whole lines of a text: those that have their end in it
abbrev pub whole_lines : List ℕ → List (List ℕ)
whole_lines text = lines_by false text

-- no line of more bytes can be read (01: 'lines of at most 64 bytes')
abbrev pub line_bytes : ℕ
line_bytes = 64

-- a line with so many bytes is unreadable, however it goes on: no more need be kept of one that is cut
abbrev pub most : ℕ
most = line_bytes + 1

-- the bytes of a block from `at` up to `end`, and what is kept of them
abbrev pub part : List ℕ → ℕ → ℕ → List ℕ
part text at end = take (end - at) (drop at text)

abbrev pub kept : List ℕ → ℕ → ℕ → List ℕ
kept text at end = take most (part text at end)
