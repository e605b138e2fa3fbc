-- Demand 3 of the program: however its input comes in parts, and wherever an accepted S stands in it, the
-- steps behind it with the answers that are printed for them are a history, and demand 3 holds of it.
--
-- Why: all that the program has written is the text of its lines (`Whole`), one output for each (`Outputs`).
-- Those behind an accepted S are the answers of the history (`Sessions`). Its settings are accepted, and for
-- accepted settings demand 3 holds of every list of steps (`register`).
-- In order: the outputs from an accepted S on; the session in a script; the program.
-- Assumes nothing.
use Rattle.basics.proofs.Prelude.{◌≡◌, refl, sym, ap, ◌∙◌, subst, List, ◌∷◌, ◌++◌, length, ℕ}
use Rattle.std.specs.Prelude.{Option, Some}
use Rattle.register.specs.Settings.{Settings}
use Rattle.register.proofs.Theorem.{demand_three_lem}
use Rattle.script.specs.declared.parse.Line.{Line}
use Rattle.script.specs.declared.print.Output.{Output}
use Rattle.script.specs.declared.print.Output.TheVariants as output
use Rattle.script.specs.Lines.{lines_of}
use Rattle.script.specs.Numerals.{next_number}
use Rattle.state.specs.State.{settings_of}
use Rattle.rehearse.specs.Stage.{Stage}
use Rattle.rehearse.specs.Blocks.{beginning, input_of}
use Rattle.rehearse.specs.Sessions.{accepted_by, NoneAccepted, steps_of, session_outputs, lines_in}
use Rattle.rehearse.specs.Sessions.{Session, Rehearsed}
use Rattle.rehearse.proofs.Answering.{stage_at}
use Rattle.rehearse.proofs.Outputs.{outputs_of, stage_behind, outputs_many, outputs_then, text_is}
use Rattle.rehearse.proofs.Sessions.{Begun, begun, in_session}
use Rattle.rehearse.proofs.Whole.{whole}

-- ---- the outputs from an accepted S on

module _ {known : Stage} {setup : Option Line} {S : Settings} (session_of : Begun known setup S)
    (between after' : List (Option Line))
    (plain : NoneAccepted between) where
  -- the program behind the S
  abbrev first : Stage
  first = stage_at session_of.settings (steps_of between) 0 (next_number known.number)

  -- the outputs of the lines behind the session
  abbrev later : List Output
  later = outputs_of (stage_behind first between) after'

  session_outputs_lem : outputs_of known (setup ∷ between ++ after')
      ≡ session_outputs (settings_of session_of.settings) between ++ later
  unfolding outputs_of
  session_outputs_lem =
      (λ i. session_of.prints i ∷ outputs_of (session_of.leaves (steps_of between) i) (between ++ after'))
      ∙ ap (λ (os : List Output). output.Set ∷ os)
      (outputs_then first between after'
      ∙ ap (λ (os : List Output). os ++ later)
      (in_session session_of.settings session_of.allowed (steps_of between) between plain 0
      (next_number known.number) refl))

-- ---- the session in a script

session : (known : Stage) (before between after' : List (Option Line)) (setup : Option Line) (S : Settings)
    → accepted_by setup ≡ Some S
    → NoneAccepted between
    → Session (outputs_of known (before ++ (setup ∷ between ++ after'))) (length before) S between
session known before between after' setup S e plain =
    let session_of = begun (stage_behind known before) setup S e in
    let all : List Output = outputs_of known (before ++ (setup ∷ between ++ after')) in
    subst (λ (T : Settings). Session all (length before) T between) session_of.same
    (record {
      front = outputs_of known before;
      behind = later session_of between after' plain;
      many = outputs_many known before;
      answers =
          outputs_then known before (setup ∷ between ++ after')
          ∙ ap (λ (os : List Output). outputs_of known before ++ os)
          (session_outputs_lem session_of between after' plain);
      demand =
          demand_three_lem (settings_of session_of.settings) session_of.allowed.accepted (steps_of between);
    })

-- ---- the program

pub rehearsed : (parts : List (List ℕ)) → Rehearsed parts
rehearsed parts =
    record {
      outputs = outputs_of beginning (lines_in parts);
      many = outputs_many beginning (lines_in parts);
      written = whole beginning parts ∙ text_is beginning 0 (lines_of (input_of parts)) refl;
      sessions = λ before between after' setup S split accepted plain.
          subst (λ (ls : List (Option Line)). Session (outputs_of beginning ls) (length before) S between) (sym split)
          (session beginning before between after' setup S accepted plain);
    }
