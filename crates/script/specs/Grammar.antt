-- A line of a script: which step or setup it is, or nothing where it is unreadable (01, 'The program rehearse').
--
-- A line is a letter and arguments, with single blanks between; all arguments but the last are numbers. In
-- order: the readers of arguments; what a line says, by its letter; the line; what the reader of a first number
-- answers.
-- Assumes nothing.
use Prim.Native.Char.{code}
use Rattle.std.specs.Prelude.{ℕ, zero, suc, ◌+◌, ◌*◌, ◌≤◌, ◌≡◌, Bool, cond, ◌&&◌, ◌||◌, List, [], ◌∷◌, leb, eqb, length, get_or, drop, Option, Some, None, option_and_then, IfSome}
use Rattle.message.specs.Layout.{words}
use Rattle.register.specs.Settings.{most_servers}
use Rattle.register.specs.declared.Step.TheVariants.{R, W, K, D, C, L}
use Rattle.script.specs.declared.parse.Line.{Line}
use Rattle.script.specs.declared.parse.Line.TheVariants.{Setup, Do}
use Rattle.script.specs.declared.parse.First.{First}
use Rattle.script.specs.Lines.{up_to, behind, line_bytes}
use Rattle.script.specs.Numbers.{digit_value, all_bytes, number_in, hex_in, entry_digits, message_digits}

-- what follows from a value, if there is one
infixl 10 ◌>>=◌
abbrev pub ◌>>=◌ : {A B : Type 0} → Option A → (A → Option B) → Option B
value >>= line = option_and_then line value

-- a number, a blank, and what follows from its value and the rest
abbrev pub number_then : List ℕ → (ℕ → List ℕ → Option Line) → Option Line
number_then text line = do
  rest ← behind (code " ") text
  value ← number_in (up_to (code " ") text)
  line value rest

-- so many numbers, each with a blank behind it, and what follows from the last three and the rest
unfoldable pub numbers_then : ℕ → ℕ → ℕ → ℕ → List ℕ → (ℕ → ℕ → ℕ → List ℕ → Option Line) → Option Line
numbers_then zero earliest earlier later text line = line earliest earlier later text
numbers_then (suc count) _ earlier later text line =
    number_then text (λ value rest. numbers_then count earlier later value rest line)

-- marks are 1 to 13 digits 0 or 1, the first that of server 1; as a number, server k's mark is bit k - 1
abbrev pub is_mark : ℕ → Bool
is_mark byte = eqb byte (code "0") || eqb byte (code "1")

unfoldable pub mark_bits : List ℕ → ℕ
mark_bits [] = 0
mark_bits (byte ∷ rest) = digit_value byte + 2 * mark_bits rest

unfoldable pub marks_in : List ℕ → Option ℕ
marks_in text =
    cond (leb 1 (length text) && leb (length text) most_servers && all_bytes is_mark text)
    (Some (mark_bits text)) None

-- the last argument, and what the line says: a number, behind earlier if there is a number before it
abbrev pub number_line : ℕ → ℕ → ℕ → Option Line
number_line letter earlier value =
    cond (eqb letter (code "R")) (Some (Do (R value)))
    (cond (eqb letter (code "C")) (Some (Do (C value)))
    (cond (eqb letter (code "K")) (Some (Do (K earlier value)))
    (cond (eqb letter (code "D")) (Some (Do (D earlier value))) None)))

abbrev pub number_after : ℕ → ℕ → List ℕ → Option Line
number_after letter earlier text = number_in text >>= number_line letter earlier

-- an entry behind a client, a message behind a server and a client, marks behind f, n and the number of
-- clients
abbrev pub entry_after : ℕ → List ℕ → Option Line
entry_after d text = hex_in entry_digits text >>= λ value. Some (Do (W d (record { 0 = value })))

abbrev pub message_after : ℕ → ℕ → List ℕ → Option Line
message_after k d text = hex_in message_digits text >>= λ value. Some (Do (L k d (words value)))

abbrev pub marks_after : ℕ → ℕ → ℕ → List ℕ → Option Line
marks_after f n clients text = marks_in text >>= λ marks.
    Some (Setup (record { f = f; n = n; clients = clients; faulty = marks }))

-- how many numbers stand before the last argument
abbrev pub leading_of : ℕ → ℕ
leading_of letter =
    cond (eqb letter (code "S")) 3
    (cond (eqb letter (code "L")) 2
    (cond (eqb letter (code "W")) 1 (cond (eqb letter (code "K")) 1 (cond (eqb letter (code "D")) 1 0))))

-- the line by its letter, the last three of these numbers, and the last argument
abbrev pub last_of : ℕ → ℕ → ℕ → ℕ → List ℕ → Option Line
last_of letter earliest earlier later text =
    cond (eqb letter (code "S")) (marks_after earliest earlier later text)
    (cond (eqb letter (code "L")) (message_after earlier later text)
    (cond (eqb letter (code "W")) (entry_after later text) (number_after letter later text)))

unfoldable pub arguments_of : ℕ → List ℕ → Option Line
arguments_of letter text = numbers_then (leading_of letter) 0 0 0 text (last_of letter)

-- a line that is not too long: a letter, a blank and arguments
unfoldable pub line_of : List ℕ → Option Line
line_of line =
    cond (leb 3 (length line) && leb (length line) line_bytes && eqb (get_or line 1 0) (code " "))
    (arguments_of (get_or line 0 0) (drop 2 line)) None

-- the answer is the number before the first blank of a text, and where the text behind it begins
pub record Cut (answer : Option First) (text : List ℕ) : Type 0 where
  pub within : IfSome answer (λ first. first.next ≤ length text)
  pub means : (line : ℕ → List ℕ → Option Line)
      → (answer >>= λ first. line first.value (drop first.next text)) ≡ number_then text line
