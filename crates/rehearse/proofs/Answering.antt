-- The program in a session: before each step of its history, its memory is that of the history's world. A
-- step that it makes there is answered as the history has it, and leaves the memory of the next world.
--
-- Why: every world of a history is well formed (`register`), and a step of the stored form of such a world is
-- the model's step, stored (`Histories.stored_stepped`).
-- Assumes nothing.
use Rattle.basics.proofs.Prelude.{◌≡◌, List, get_or, ℕ, suc}
use Rattle.std.specs.Prelude.{Some}
use Rattle.register.specs.declared.Step.{Step}
use Rattle.register.proofs.Vocabulary.{formats, world_at, answer_at, World}
use Rattle.register.specs.Steps as model
use Rattle.register.proofs.Formats.{lawful}
use Rattle.register.proofs.Reachable.{well_formed_lem}
use Rattle.state.specs.declared.Settings.{Settings}
use Rattle.state.specs.State.{settings_of, step_of, store_servers, store_clients, store_slots}
use Rattle.state.proofs.SoundFacts.{Allowed}
use Rattle.steps.specs.After.{After, after}
use Rattle.system.proofs.Histories.{stored_stepped}
use Rattle.rehearse.specs.Stage.{Stage, stage, step_on}

module _ (settings : Settings) (steps : List model.Step) where
  -- the world before the step at a place
  abbrev world : ℕ → World
  world place = world_at (settings_of settings) formats steps place

  -- the program before it, at a line
  abbrev pub stage_at : ℕ → ℕ → Stage
  stage_at place number =
      stage (Some settings) (store_servers (world place)) (store_clients (world place))
      (store_slots (world place)) number

  -- what the history has of it
  abbrev pub answered : ℕ → After
  answered place =
      after (answer_at (settings_of settings) formats steps place) (store_servers (world (suc place)))
      (store_clients (world (suc place))) (store_slots (world (suc place)))

  pub step_answered : Allowed settings → (place number : ℕ) (step : Step)
      → get_or steps place (model.R 0) ≡ step_of step → step_on (stage_at place number) settings step ≡ answered place
  unfolding world_at
  step_answered allowed place number step e =
      let well = well_formed_lem (settings_of settings) formats allowed.accepted lawful steps place in
      cc (stored_stepped settings allowed (world place) well step, e)
