-- `put_refused`: the word, the refusal's number and the line's end.
use Rattle.basics.proofs.Prelude.{◌≡◌, sym, List, [], ◌∷◌, ◌++◌, ℕ, arith}
use Rattle.std.specs.Prelude.{Err}
use Prim.Native.Char.{code}
use Rattle.refusal.specs.declared.Refusal.{Refusal}
use Rattle.refusal.specs.Numbers.{number_of}
use Rattle.script.specs.Lines.{newline}
use Rattle.script.specs.Spelt.{spelt}
use Rattle.script.specs.Printed.{spaced, answer_line}
use Rattle.script.specs.Writing.{Written}
use Rattle.script.proofs.Lengths.{spaced_short}
use Rattle.script.proofs.Writing.{keeps, then, named}
use Rattle.script.proofs.print.put_refused.Goals as goal

-- the text by the refusal's number
abbrev text : ℕ → List ℕ
text number = code " " ∷ spelt "REFUSED" ++ spaced number ++ newline ∷ []

by_number : (why : Refusal) (number : ℕ) {before : List ℕ} {at end : ℕ} {after : List ℕ}
    → number ≡ number_of why
    → Written (text number) before at end after → Written (answer_line (Err why)) before at end after
by_number why number is w = named text (sym is) w

pub put_text-requires : goal.put_text-requires
put_text-requires c =
    let word = c.put_text-word_end.ensures in
    let number = c.put_spaced-number_end.ensures in
    omega (arith, spaced_short c.from.result, keeps word, keeps number, word.ends, number.ends)

pub returns : goal.returns
returns c =
    by_number c.args.why c.from.result c.from.ensures
    (then c.put_text-word_end.ensures (then c.put_spaced-number_end.ensures c.put_text.ensures))
