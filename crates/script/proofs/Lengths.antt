-- How long a printed line can be: 20 digits, a word with a counter, a client and an entry, blanks between,
-- and the line's end. Counting 20 digits for every number is enough. And how short it can be: 5 bytes behind
-- the number.
-- Assumes nothing.
use Rattle.basics.proofs.Prelude.{[], ◌∷◌, ◌++◌, length, length-append, ℕ, ◌+◌, ◌≤◌, arith}
use Rattle.std.specs.Prelude.{Ok, Err}
use Rattle.message.specs.declared.Pair.{Pair}
use Rattle.message.specs.Pair.{counter, client, entry}
use Rattle.refusal.specs.Numbers.{number_of}
use Rattle.register.specs.declared.Answer.TheVariants.{Went, Read, Wrote, Spent}
use Rattle.register.specs.World.{StepAnswer}
use Rattle.script.specs.declared.print.Output.{Output}
use Rattle.script.specs.declared.print.Output.TheVariants.{Set, Unread, Answered}
use Rattle.script.specs.Lines.{newline}
use Rattle.script.specs.Numbers.{decimal, hex_entry, entry_digits}
use Rattle.script.specs.Printed.{spaced, pair_text, answer_text, output_text}
use Rattle.script.specs.Printed.{behind_number, printed, longest}
use Rattle.script.proofs.Digits.{decimal_short, digits_length}

-- a blank and a number
pub spaced_short : (value : ℕ) → length (spaced value) ≤ 21
spaced_short value = omega (arith, decimal_short value)

two_short : (first second : ℕ) → length (spaced first ++ spaced second) ≤ 42
two_short first second =
    rw (length-append (spaced first) (spaced second)) (omega (arith, spaced_short first, spaced_short second))

pub pair_short : (pair : Pair) → length (pair_text pair) ≤ 53
pair_short pair =
    rw (length-append (spaced (counter pair).0 ++ spaced (client pair)) (32 ∷ hex_entry (entry pair).0))
    (omega (arith, two_short (counter pair).0 (client pair), digits_length 16 entry_digits (entry pair).0))

-- a word and what it adds have 3 to 58 bytes
answer_size : (answer : StepAnswer) → (3 ≤ length (answer_text answer)) × (length (answer_text answer) ≤ 58)
answer_size (Ok Went) = (omega arith, omega arith)
answer_size (Ok (Read pair)) = (omega arith, omega (arith, pair_short pair))
answer_size (Ok (Wrote pair)) = (omega arith, omega (arith, pair_short pair))
answer_size (Ok Spent) = (omega arith, omega arith)
answer_size (Err refusal) = (omega arith, omega (arith, spaced_short (number_of refusal)))

output_size : (output : Output) → (3 ≤ length (output_text output)) × (length (output_text output) ≤ 58)
output_size Set = (omega arith, omega arith)
output_size Unread = (omega arith, omega arith)
output_size (Answered answer) = answer_size answer

-- no line is longer
pub printed_short : (number : ℕ) (output : Output) → length (printed number output) ≤ longest
unfolding printed
printed_short number output =
    rw (
      length-append (decimal number) (behind_number output),
      length-append (32 ∷ output_text output) (newline ∷ []),
    ) (omega (arith, decimal_short number, (output_size output).1))

-- the room for a number
pub decimal_fits : (value at size : ℕ) → at + 20 ≤ size → at + length (decimal value) ≤ size
decimal_fits value at size h = omega (arith, decimal_short value)

-- what stands behind the number is no shorter than ` SET` and the line's end
pub behind_long : (output : Output) → 5 ≤ length (behind_number output)
behind_long output =
    rw (length-append (32 ∷ output_text output) (newline ∷ [])) (omega (arith, (output_size output).0))
