-- The next line of a text, and the commonest lines, which are read at once.
--
-- In order: what stands at a place; a short number, a lie.
-- A reader of the public contracts needs none of it.
-- Assumes nothing.
use Rattle.std.specs.Prelude.{ℕ, ◌+◌, ◌≤◌, ◌≡◌, cond, List, [], ◌∷◌, ◌++◌, length, drop, Some}
use Rattle.script.specs.declared.next.Found.{Found}
use Rattle.script.specs.Grammar.{number_then, message_after, line_of}
use Rattle.script.specs.Lines.{up_to, newline, part, line_end}
use Rattle.script.specs.Numbers.{is_digit, digit_value, value_from, number_in}

-- where the line that begins at a place ends, or the text does, and what it says
abbrev pub found_at : List ℕ → ℕ → Found
found_at text at = record { end = line_end text at; line = line_of (part text at (line_end text at)) }

-- the bytes from a place up to the line's end
abbrev pub rest_at : List ℕ → ℕ → List ℕ
rest_at text at = up_to newline (drop at text)

-- a digit and, if the byte behind it is one too, that digit
abbrev pub short_word : ℕ → ℕ → List ℕ
short_word first second = cond (is_digit second) (first ∷ second ∷ []) (first ∷ [])

abbrev pub short_value : ℕ → ℕ → ℕ
short_value first second = value_from digit_value 10 0 (short_word first second)

-- from a place on stand one or two digits, whose number is the value, and a stop; `next` is the place behind
-- it
pub record Short (text : List ℕ) (at stop value next : ℕ) : Type 0 where
  pub word : List ℕ
  pub few : length word ≤ 2
  pub number : number_in word ≡ Some value
  pub bytes : drop at text ≡ word ++ stop ∷ drop next text
  pub behind : next ≡ at + length word + 1

-- from a place on up to the line's end: what is found is what the line of server k's lie says there
pub record Lie (text : List ℕ) (k at : ℕ) (found : Found) : Type 0 where
  pub ends : line_end text at ≡ found.end
  pub few : found.end ≤ at + 25
  pub says : number_then (rest_at text at) (message_after k) ≡ found.line
