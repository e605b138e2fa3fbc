-- The text of lines is the text of outputs, one for each line, numbered by its place.
--
-- Why: every line is counted, whatever it is, up to the last number of 64 bits.
-- In order: the outputs of lines, and of lines behind lines; the numbers; the text.
-- Assumes nothing.
use Rattle.refusal.specs.declared.Refusal.{Refusal}
use Rattle.basics.proofs.Prelude.{◌≡◌, refl, ap, ◌∙◌, List, [], ◌∷◌, ◌++◌, length, ℕ}
use Rattle.basics.proofs.Prelude.{suc, arith, ltb, ltb-true, ltb-false}
use Rattle.std.specs.Prelude.{Option, Some, None, Result, Ok, Err}
use mathlib.Core.List.{map}
use Rattle.basics.proofs.Cases.{by_test}
use Rattle.register.specs.declared.Step.{Step}
use Rattle.state.specs.declared.Settings.{Settings}
use Rattle.script.specs.declared.parse.Line.{Line}
use Rattle.script.specs.declared.parse.Line.TheVariants as line
use Rattle.script.specs.declared.print.Output.{Output}
use Rattle.script.specs.Grammar.{line_of}
use Rattle.script.specs.Numerals.{next_number}
use Rattle.system.specs.Setup.{setup_of}
use Rattle.rehearse.specs.Stage.{Stage, step_stage, set_up, output_of, after, text_of}
use Rattle.rehearse.specs.Sessions.{number_at, text_from}

-- ---- the outputs of lines

unfoldable pub outputs_of : Stage → List (Option Line) → List Output
outputs_of known [] = []
outputs_of known (l ∷ ls) = output_of known l ∷ outputs_of (after known l) ls

-- what is known behind them
unfoldable pub stage_behind : Stage → List (Option Line) → Stage
stage_behind known [] = known
stage_behind known (l ∷ ls) = stage_behind (after known l) ls

pub outputs_many : (known : Stage) (ls : List (Option Line)) → length (outputs_of known ls) ≡ length ls
unfolding outputs_of
outputs_many known [] = refl
outputs_many known (l ∷ ls) = ap suc (outputs_many (after known l) ls)

pub outputs_then : (known : Stage) (ls more : List (Option Line))
    → outputs_of known (ls ++ more) ≡ outputs_of known ls ++ outputs_of (stage_behind known ls) more
unfolding outputs_of stage_behind
outputs_then known [] more = refl
outputs_then known (l ∷ ls) more =
    ap (λ (os : List Output). output_of known l ∷ os) (outputs_then (after known l) ls more)

-- ---- the numbers

setup_counted : (known : Stage) (answer : Result Settings Refusal) → (set_up known answer).number ≡ next_number known.number
setup_counted known (Ok settings) = refl
setup_counted known (Err why) = refl

step_counted : (known : Stage) (settings : Option Settings) (step : Step)
    → (step_stage known settings step).number ≡ next_number known.number
step_counted known (Some settings) step = refl
step_counted known None step = refl

line_counted : (known : Stage) (l : Option Line) → (after known l).number ≡ next_number known.number
unfolding after
line_counted known (Some (line.Setup asked)) = setup_counted known (setup_of asked.f asked.n asked.clients asked.faulty)
line_counted known (Some (line.Do step)) = step_counted known known.settings step
line_counted known None = refl

-- the next place has the next number
next_place : (n : ℕ) → next_number (number_at n) ≡ number_at (suc n)
next_place n =
    by_test (ltb (number_at n) 18446744073709551615)
    (λ e. let less = ltb-true (number_at n) 18446744073709551615 e in rw e (omega arith))
    (λ e. let more = ltb-false (number_at n) 18446744073709551615 e in rw e (omega arith))

-- ---- the text

pub text_is : (known : Stage) (n : ℕ) (ls : List (List ℕ)) → known.number ≡ number_at n
    → text_of known ls ≡ text_from n (outputs_of known (map line_of ls))
unfolding text_of text_from outputs_of
text_is known n [] e = refl
text_is known n (l ∷ ls) e =
    let said : Option Line = line_of l in
    cc (text_is (after known said) (suc n) ls (line_counted known said ∙ ap next_number e ∙ next_place n), e)
