-- What the program prints for the lines behind an accepted S are the answers of the history of their steps.
--
-- Why: an accepted S leaves the memory of the first world, whatever was before it. So it begins a history, of
-- the steps that are read behind it. Each of them finds the memory of the history's world, and leaves that of
-- the next (`Answering`). The other lines, of which none is an accepted S, leave the memory as it is.
-- In order: a place in a list; an S, refused or accepted; lines in a session; the S that begins one.
-- Assumes nothing.
use Rattle.refusal.specs.declared.Refusal.{Refusal}
use Rattle.basics.proofs.Prelude.{◌≡◌, refl, sym, ap, ◌∙◌, inl, inr, List, [], ◌∷◌, length, get_or}
use Rattle.basics.proofs.Prelude.{drop, length-drop, ℕ, suc, arith}
use Rattle.std.specs.Prelude.{Option, Some, None, Result}
use Rattle.std.specs.Prelude.{Ok, Err}
use lib.Seq.{drop-cons}
use Rattle.basics.proofs.Cases.{clash}
use Rattle.register.proofs.Vocabulary.{formats, world_at, answer_at}
use Rattle.register.specs.Settings as register
use Rattle.register.specs.Steps as model
use Rattle.script.specs.declared.parse.Line.{Line}
use Rattle.script.specs.declared.parse.Line.TheVariants as line
use Rattle.script.specs.declared.print.Output.{Output}
use Rattle.script.specs.declared.print.Output.TheVariants as output
use Rattle.script.specs.Numerals.{next_number}
use Rattle.state.specs.declared.Settings.{Settings}
use Rattle.state.specs.State.{settings_of, step_of}
use Rattle.state.proofs.SoundFacts.{Allowed}
use Rattle.system.specs.Setup.{setup_of}
use Rattle.system.proofs.SetupLaws.{allowed_set}
use Rattle.rehearse.specs.Stage.{Stage, counted, setup_output, set_up, output_of, after}
use Rattle.rehearse.specs.Sessions.{accepted_in, accepted_by, NoneAccepted, steps_of, outputs_by}
use Rattle.rehearse.proofs.Answering.{stage_at, step_answered}
use Rattle.rehearse.proofs.Outputs.{outputs_of}

-- ---- a place in a list

-- where a list is known from a place on, so are what stands there and what the list is behind it
at_place : {A : Type 0} (l : List A) (q : ℕ) (d x : A) (xs : List A) → drop q l ≡ x ∷ xs
    → (get_or l q d ≡ x) × (drop (suc q) l ≡ xs)
at_place l q d x xs e =
    let long = length-drop q l in
    let many : length (drop q l) ≡ suc (length xs) = ap length e in
    let same : get_or l q d ∷ drop (suc q) l ≡ x ∷ xs = sym (drop-cons l q d (omega arith)) ∙ e in
    ((let z : get_or l q d ≡ x = cc in z), (let z : drop (suc q) l ≡ xs = cc in z))

-- ---- an S, refused or accepted

refused_setup : (known : Stage) (answer : Result Settings Refusal) → accepted_in answer ≡ None
    → set_up known answer ≡ counted known
refused_setup known (Ok settings) e = clash (cc)
refused_setup known (Err why) e = refl

accepted_setup : (answer : Result Settings Refusal) (S : register.Settings) → accepted_in answer ≡ Some S
    → (settings : Settings) × (answer ≡ Ok settings) × (settings_of settings ≡ S)
accepted_setup (Ok settings) S e = (settings, refl, (let z : settings_of settings ≡ S = cc in z))
accepted_setup (Err why) S e = clash (cc)

-- ---- lines in a session

-- where the steps of the history are, from a place on, those of the lines
pub in_session : (settings : Settings) → Allowed settings → (steps : List model.Step) (ls : List (Option Line))
    → NoneAccepted ls → (place number : ℕ) → drop place steps ≡ steps_of ls
    → outputs_of (stage_at settings steps place number) ls
    ≡ outputs_by (answer_at (settings_of settings) formats steps) place ls
unfolding outputs_of output_of after accepted_by steps_of outputs_by
in_session settings allowed steps [] plain place number e = refl
in_session settings allowed steps (Some (line.Setup asked) ∷ ls) plain place number e =
    let answer : Result Settings Refusal = setup_of asked.f asked.n asked.clients asked.faulty in
    ap (λ (os : List Output). setup_output answer ∷ os)
    (ap (λ (known : Stage). outputs_of known ls)
    (refused_setup (stage_at settings steps place number) answer
    (plain (Some (line.Setup asked)) (inl refl)))
    ∙ in_session settings allowed steps ls (λ l among. plain l (inr among)) place (next_number number) e)
in_session settings allowed steps (Some (line.Do step) ∷ ls) plain place number e =
    let here = at_place steps place (model.R 0) (step_of step) (steps_of ls) e in
    cc (
      step_answered settings steps allowed place number step here.0,
      in_session settings allowed steps ls (λ l among. plain l (inr among)) (suc place) (next_number number)
          here.1,
    )
in_session settings allowed steps (None ∷ ls) plain place number e =
    cc (in_session settings allowed steps ls (λ l among. plain l (inr among)) place (next_number number) e)

-- ---- the S that begins one

-- whatever the program knew, it then is before the first step
pub record Begun (known : Stage) (setup_line : Option Line) (S : register.Settings) : Type 0 where
  pub settings : Settings
  pub allowed : Allowed settings
  pub same : settings_of settings ≡ S
  pub prints : output_of known setup_line ≡ output.Set
  pub leaves : (steps : List model.Step)
      → after known setup_line ≡ stage_at settings steps 0 (next_number known.number)

pub begun : (known : Stage) (setup_line : Option Line) (S : register.Settings) → accepted_by setup_line ≡ Some S
    → Begun known setup_line S
unfolding output_of after accepted_by world_at
begun known (Some (line.Setup asked)) S e =
    let given = accepted_setup (setup_of asked.f asked.n asked.clients asked.faulty) S e in
    record {
      settings = given.0;
      allowed = allowed_set asked.f asked.n asked.clients asked.faulty given.0 given.1;
      same = given.2;
      prints = ap setup_output given.1;
      leaves = λ steps. ap (set_up known) given.1;
    }
begun known (Some (line.Do step)) S e = clash (cc)
begun known None S e = clash (cc)
