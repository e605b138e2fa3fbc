-- A whole run in lent memory (01, 'The words of demand 3'): a list of steps in numbers, from a setup, and
-- their answers in numbers.
--
-- In order: a step; an answer; how many steps there are; the list; what a run leaves; what it gives for a
-- setup.
-- Assumes nothing.
use Rattle.refusal.specs.declared.Refusal.{Refusal}
use Rattle.std.specs.Prelude.{ℕ, zero, suc, ◌+◌, ◌-◌, ◌*◌, ◌/◌, ◌^◌, min, ◌≡◌, cond, List, eqb, ltb, length, get_or, set}
use Rattle.std.specs.Prelude.{Result, Ok, Err}
use Rattle.basics.specs.Tables.{listed}
use Rattle.refusal.specs.Numbers.{number_of}
use Rattle.register.specs.declared.Answer.TheVariants.{Went, Read, Wrote, Spent}
use Rattle.register.specs.declared.Step.{Step}
use Rattle.register.specs.declared.Step.TheVariants.{R, W, K, D, C, L}
use Rattle.register.specs.DemandThree.{DemandThreeOf}
use Rattle.register.specs.Formats.{formats}
use Rattle.register.specs.World.{StepAnswer}
use Rattle.register.specs.History.{world_at, answer_at}
use Rattle.register.specs.Steps as steps
use Rattle.state.specs.declared.Settings.{Settings}
use Rattle.state.specs.State.{settings_of, step_of}
use Rattle.system.specs.Stored.{Stored}

-- ---- a step in five numbers: its kind, 0 to 5 for R, W, K, D, C, L, and its arguments; a message is two of
-- them

-- how many numbers a step has, and an answer
abbrev pub step_numbers : ℕ
step_numbers = 5

abbrev pub answer_numbers : ℕ
answer_numbers = 2

-- an argument of 32 bits; a larger one is the highest, which is no client, no server and no message
abbrev pub clamped : ℕ → ℕ
clamped number = cond (ltb number (2 ^ 32)) number (2 ^ 32 - 1)

-- another kind is R 0, which every state refuses
abbrev pub step_by : ℕ → ℕ → ℕ → ℕ → ℕ → Step
step_by kind first second high low =
    cond (eqb kind 0) (R (clamped first))
    (cond (eqb kind 1) (W (clamped first) (record { 0 = second }))
    (cond (eqb kind 2) (K (clamped first) (clamped second))
    (cond (eqb kind 3) (D (clamped first) (clamped second))
    (cond (eqb kind 4) (C (clamped first))
    (cond (eqb kind 5) (L (clamped first) (clamped second) (record { 0 = clamped high; 1 = low })) (R 0))))))

-- step i of the list
abbrev pub step_in : List ℕ → ℕ → Step
step_in list i =
    let at = i * step_numbers in
    step_by (get_or list at 0) (get_or list (at + 1) 0) (get_or list (at + 2) 0) (get_or list (at + 3) 0)
    (get_or list (at + 4) 0)

-- ---- an answer in two numbers: which it is, and the pair that READ or WROTE shows

abbrev pub code_of : StepAnswer → ℕ
code_of (Ok Went) = 0
code_of (Ok (Read pair)) = 1
code_of (Ok (Wrote pair)) = 2
code_of (Ok Spent) = 3
code_of (Err why) = 16 + number_of why

abbrev pub shown_by : StepAnswer → ℕ
shown_by (Ok Went) = 0
shown_by (Ok (Read pair)) = pair.0
shown_by (Ok (Wrote pair)) = pair.0
shown_by (Ok Spent) = 0
shown_by (Err why) = 0

-- the answers of the first n steps, written over what memory held
abbrev pub put_answer : List ℕ → ℕ → StepAnswer → List ℕ
put_answer out i answer =
    let at = i * answer_numbers in set (set out at (code_of answer)) (at + 1) (shown_by answer)

unfoldable pub answered : (ℕ → StepAnswer) → List ℕ → ℕ → List ℕ
answered answers out zero = out
answered answers out (suc n) = put_answer (answered answers out n) n (answers n)

-- ---- a run

-- as many steps as the list has whole, and as there is room for answers
unfoldable pub how_many : List ℕ → List ℕ → ℕ
how_many list out = min (length list / step_numbers) (length out / answer_numbers)

-- the first n steps of the list
unfoldable pub steps_in : List ℕ → ℕ → List steps.Step
steps_in list n = listed (λ i. step_of (step_in list i)) n

-- after i of n steps the memory is that of the history's world, and the answers are the history's
pub record Run (settings : Settings) (list out : List ℕ) (n i : ℕ)
    (servers clients slots written : List ℕ) : Type 0 where
  pub stored : Stored (world_at (settings_of settings) formats (steps_in list n) i) servers clients slots
  pub answers : written ≡ answered (answer_at (settings_of settings) formats (steps_in list n)) out i

-- an accepted setup: the whole run, and demand 3; a refused one leaves lent memory as it was
abbrev pub Outcome : Result Settings Refusal → (list out servers clients slots servers' clients' slots' out' : List ℕ) → Type 0
Outcome (Ok settings) list out servers clients slots servers' clients' slots' out' =
    Run settings list out (how_many list out) (how_many list out) servers' clients' slots' out'
    × DemandThreeOf (settings_of settings) (steps_in list (how_many list out))
Outcome (Err why) list out servers clients slots servers' clients' slots' out' =
    (servers' ≡ servers) × (clients' ≡ clients) × (slots' ≡ slots) × (out' ≡ out)
