-- The printed line (01, 'The program rehearse').
--
-- In order: a pair; the words and what they add; the line; the line in a buffer.
-- Assumes nothing.
use Prim.Native.Char.{code}
use Rattle.std.specs.Prelude.{ℕ, ◌+◌, ◌≡◌, cond, List, [], ◌∷◌, ◌++◌, leb, length, Ok, Err}
use Rattle.message.specs.declared.Pair.{Pair}
use Rattle.message.specs.Pair.{counter, client, entry}
use Rattle.refusal.specs.Numbers.{number_of}
use Rattle.register.specs.declared.Answer.TheVariants.{Went, Read, Wrote, Spent}
use Rattle.register.specs.World.{StepAnswer}
use Rattle.script.specs.declared.print.Output.{Output}
use Rattle.script.specs.declared.print.Output.TheVariants.{Set, Unread, Answered}
use Rattle.script.specs.Spelt.{spelt}
use Rattle.script.specs.Lines.{newline}
use Rattle.script.specs.Numbers.{decimal, hex_entry}
use Rattle.script.specs.Writing.{written}

-- a blank and a number
abbrev pub spaced : ℕ → List ℕ
spaced value = code " " ∷ decimal value

-- counter, client and entry of a pair, each behind a blank
abbrev pub pair_text : Pair → List ℕ
pair_text pair = spaced (counter pair).0 ++ spaced (client pair) ++ code " " ∷ hex_entry (entry pair).0

-- the word of an answer, WENT, READ, WROTE, SPENT or REFUSED, and what it adds
abbrev pub answer_text : StepAnswer → List ℕ
answer_text (Ok Went) = spelt "WENT"
answer_text (Ok (Read pair)) = spelt "READ" ++ pair_text pair
answer_text (Ok (Wrote pair)) = spelt "WROTE" ++ pair_text pair
answer_text (Ok Spent) = spelt "SPENT"
answer_text (Err refusal) = spelt "REFUSED" ++ spaced (number_of refusal)

-- a word and a pair, and an answer behind a blank, with the line's end
abbrev pub pair_line : List ℕ → Pair → List ℕ
pair_line word pair = word ++ pair_text pair ++ newline ∷ []

abbrev pub answer_line : StepAnswer → List ℕ
answer_line answer = code " " ∷ answer_text answer ++ newline ∷ []

-- SET, UNREAD or an answer
abbrev pub output_text : Output → List ℕ
output_text Set = spelt "SET"
output_text Unread = spelt "UNREAD"
output_text (Answered answer) = answer_text answer

-- what stands behind the line's number: a blank, the word with what it adds, and the line's end
abbrev pub behind_number : Output → List ℕ
behind_number output = code " " ∷ output_text output ++ newline ∷ []

-- the printed line of a number
unfoldable pub printed : ℕ → Output → List ℕ
printed number output = decimal number ++ behind_number output

-- the most bytes of a line's number, of what stands behind it, and of both
abbrev pub longest_number : ℕ
longest_number = 20

abbrev pub longest_output : ℕ
longest_output = 60

abbrev pub longest : ℕ
longest = longest_number + longest_output

-- a buffer that takes any line shows the text at its start, `size` bytes of it; a shorter one stays as it is,
-- and `size` is 0
pub record Shown (text before : List ℕ) (size : ℕ) (after : List ℕ) : Type 0 where
  pub bytes : size ≡ cond (leb longest (length before)) (length text) 0
  pub holds : after ≡ cond (leb longest (length before)) (written before 0 text) before
