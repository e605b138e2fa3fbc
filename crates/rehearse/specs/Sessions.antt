-- Demand 3 of the program (01, 'The program rehearse' and 'The words of demand 3').
--
-- An accepted S begins a session. The steps that are read behind it and before the next accepted S, with the
-- answers that are printed for them, are a history, and demand 3 holds of it. This is about lines and what is
-- printed for them, not about state or memory.
--
-- In order: what lines are; what is printed for the lines of a session; a session; what holds of the program.
-- Assumes nothing.
use Rattle.std.specs.Prelude.{ℕ, suc, ◌-◌, ◌^◌, min, ◌≡◌, List, [], ◌∷◌, ◌++◌, map, length, Option, Some, None, Result}
use Rattle.std.specs.Prelude.{Ok, Err}
use Rattle.refusal.specs.declared.Refusal.{Refusal}
use Rattle.basics.specs.Members.{Member}
use Rattle.register.specs.DemandThree.{DemandThreeOf}
use Rattle.register.specs.Formats.{formats}
use Rattle.register.specs.History.{answer_at}
use Rattle.register.specs.Settings.{Settings}
use Rattle.register.specs.Steps.{Step}
use Rattle.register.specs.World.{StepAnswer}
use Rattle.script.specs.declared.parse.Line.{Line}
use Rattle.script.specs.declared.parse.Line.TheVariants as line
use Rattle.script.specs.declared.print.Output.{Output}
use Rattle.script.specs.declared.print.Output.TheVariants as output
use Rattle.script.specs.Grammar.{line_of}
use Rattle.script.specs.Lines.{lines_of}
use Rattle.script.specs.Printed.{printed}
use Rattle.state.specs.declared.Settings as state
use Rattle.state.specs.State.{settings_of, step_of}
use Rattle.system.specs.Setup.{setup_of}
use Rattle.rehearse.specs.Stage.{setup_output}
use Rattle.rehearse.specs.Blocks.{progress, beginning, turns, ending, input_of}

-- ---- what lines are

-- the settings of a line that is an accepted S
abbrev pub accepted_in : Result state.Settings Refusal → Option Settings
accepted_in (Ok settings) = Some (settings_of settings)
accepted_in (Err why) = None

unfoldable pub accepted_by : Option Line → Option Settings
accepted_by (Some (line.Setup asked)) = accepted_in (setup_of asked.f asked.n asked.clients asked.faulty)
accepted_by (Some (line.Do step)) = None
accepted_by None = None

-- no line of these is an accepted S
abbrev pub NoneAccepted : List (Option Line) → Type 0
NoneAccepted lines = (one : Option Line) → Member one lines → accepted_by one ≡ None

-- the steps among lines; a line that is unreadable, or an S, is none
unfoldable pub steps_of : List (Option Line) → List Step
steps_of [] = []
steps_of (Some (line.Setup asked) ∷ rest) = steps_of rest
steps_of (Some (line.Do step) ∷ rest) = step_of step ∷ steps_of rest
steps_of (None ∷ rest) = steps_of rest

-- ---- what is printed for the lines of a session

-- one output for each line: the first step gets answer `next`, the one after it `next + 1`, and so on
unfoldable pub outputs_by : (ℕ → StepAnswer) → ℕ → List (Option Line) → List Output
outputs_by answer next [] = []
outputs_by answer next (Some (line.Setup asked) ∷ rest) =
    setup_output (setup_of asked.f asked.n asked.clients asked.faulty) ∷ outputs_by answer next rest
outputs_by answer next (Some (line.Do step) ∷ rest) = output.Answered (answer next) ∷ outputs_by answer (suc next) rest
outputs_by answer next (None ∷ rest) = output.Unread ∷ outputs_by answer next rest

-- SET, and behind it the answers of the history that the steps have from the settings on
abbrev pub session_outputs : Settings → List (Option Line) → List Output
session_outputs settings lines = output.Set ∷ outputs_by (answer_at settings formats (steps_of lines)) 0 lines

-- outputs as text: the output at place n is printed with the number n, at most the last of 64 bits
abbrev pub number_at : ℕ → ℕ
number_at n = min n (2 ^ 64 - 1)

unfoldable pub text_from : ℕ → List Output → List ℕ
text_from n [] = []
text_from n (first ∷ rest) = printed (number_at n) first ++ text_from (suc n) rest

-- ---- a session

-- from a place of the outputs on stand those of an accepted S and of the lines behind it, with the answers of
-- the history; and demand 3 holds of this history
pub record Session (outputs : List Output) (place : ℕ) (settings : Settings) (lines : List (Option Line))
    : Type 0 where
  pub front : List Output
  pub behind : List Output
  pub many : length front ≡ place
  pub answers : outputs ≡ front ++ (session_outputs settings lines ++ behind)
  pub demand : DemandThreeOf settings (steps_of lines)

-- ---- what holds of the program

-- the lines of an input that comes in parts
abbrev pub lines_in : List (List ℕ) → List (Option Line)
lines_in parts = map line_of (lines_of (input_of parts))

-- all that the program has written at the input's end is the text of outputs, one for each line; and wherever
-- among the lines stands an accepted S, and behind it lines with no other one, these are a session
pub record Rehearsed (parts : List (List ℕ)) : Type 0 where
  pub outputs : List Output
  pub many : length outputs ≡ length (lines_in parts)
  pub written : ending (turns (progress beginning [] []) parts) ≡ text_from 0 outputs
  pub sessions : (before between after : List (Option Line)) (start : Option Line) (settings : Settings)
      → lines_in parts ≡ before ++ (start ∷ between ++ after)
      → accepted_by start ≡ Some settings → NoneAccepted between
      → Session outputs (length before) settings between
