-- Steps one after the other through the public `step`, from an accepted setup on: a state stays sound
-- (`kept`), the states and answers are those of the history, and demand 3 holds of the list (`along_steps`).
--
-- A stored world is sound and its view is the world (`state`), so a step of it is the model's, stored
-- (`stored_stepped`). The next world is well formed again (`register`), and so on along the list (`stands`),
-- from the new world that the setup stored. So demand 3, which the model has for every list, speaks of the
-- answers that the steps gave.
-- Assumes nothing.
use Rattle.basics.proofs.Prelude.{◌≡◌, refl, sym, ap, ◌∙◌, subst, true, List, [], ◌∷◌, get_or, ℕ, zero, suc}
use Rattle.std.specs.Prelude.{Ok}
use mathlib.Core.List.{map}
use Rattle.register.specs.declared.Step.{Step}
use Rattle.register.proofs.Vocabulary.{formats, world_at, World, new_world, apply, WellFormed}
use Rattle.register.specs.History.{event_at}
use Rattle.register.specs.Steps as model
use Rattle.register.proofs.Formats.{lawful}
use Rattle.register.proofs.Reachable.{well_step, well_formed_lem}
use Rattle.register.proofs.Theorem as theorem
use Rattle.state.specs.declared.Settings.{Settings}
use Rattle.state.specs.Sound.{is_sound}
use Rattle.state.specs.State.{settings_of, step_of, store_servers, store_clients, store_slots, view}
use Rattle.state.proofs.SoundFacts.{Allowed, facts}
use Rattle.state.proofs.StoredSound.{stored_state}
use Rattle.state.proofs.Viewed.{view_stored}
use Rattle.state.proofs.WellViewed.{well_view}
use Rattle.steps.specs.After.{After}
use Rattle.system.specs.Along.{step_at, Memory, start_of, step_from, state_at, AlongSteps}
use Rattle.system.specs.Setup.{setup_of, set_up_by}
use Rattle.system.specs.Step.{stored_by, stepped}
use Rattle.system.specs.Stored.{Stored}
use Rattle.system.proofs.Refusals.{sound_step}
use Rattle.system.proofs.SetupLaws.{allowed_set, set_up_answer, set_up_stored}
use Rattle.system.proofs.Turn.{event_in}

-- ---- one step of a stored world

module _ (settings : Settings) (allowed : Allowed settings) (world : World)
    (well : WellFormed (settings_of settings) formats world) (asked : Step) where
  pub stored_stepped : stepped settings (store_servers world) (store_clients world) (store_slots world) asked
      ≡ stored_by settings world (event_in settings world asked)
  stored_stepped =
      sound_step settings (store_servers world) (store_clients world) (store_slots world)
      (stored_state settings allowed world well) asked
      ∙ ap (λ (other : World). stored_by settings other (event_in settings other asked))
      (view_stored settings allowed.accepted world well)

  abbrev pub next : World
  next = apply (settings_of settings) world (event_in settings world asked)

  pub next_sound : is_sound settings (store_servers next) (store_clients next) (store_slots next) ≡ true
  next_sound =
      stored_state settings allowed next
      (well_step (settings_of settings) formats allowed.accepted lawful world well (step_of asked))

-- a sound state stays sound
pub kept : (settings : Settings) (servers clients slots : List ℕ) (asked : Step)
    → is_sound settings servers clients slots ≡ true
    → is_sound settings (stepped settings servers clients slots asked).servers
    (stepped settings servers clients slots asked).clients
    (stepped settings servers clients slots asked).slots ≡ true
kept settings servers clients slots asked sound =
    let known = facts settings servers clients slots sound in
    subst (λ (given : After). is_sound settings given.servers given.clients given.slots ≡ true)
    (sym (sound_step settings servers clients slots sound asked))
    (next_sound settings known.allowed (view servers clients slots)
    (well_view settings servers clients slots known) asked)

-- ---- a list of steps

same_step : (list : List Step) (i : ℕ) → get_or (map step_of list) i (model.R 0) ≡ step_of (step_at list i)
unfolding step_of
same_step [] zero = refl
same_step [] (suc i) = refl
same_step (first ∷ list) zero = refl
same_step (first ∷ list) (suc i) = same_step list i

module _ (settings : Settings) (allowed : Allowed settings) (start : Memory) (list : List Step) where
  -- the history
  abbrev steps : List model.Step
  steps = map step_of list

  -- the world before step i, and the state
  abbrev before : ℕ → World
  before i = world_at (settings_of settings) formats steps i

  abbrev at : ℕ → Memory
  at i = state_at settings start list i

  abbrev Stands : ℕ → Type 0
  Stands i = Stored (before i) (at i).servers (at i).clients (at i).slots

  -- where they are the same, step i is the model's, stored
  gives : (i : ℕ) → Stands i
      → step_from settings (at i) (step_at list i) ≡ stored_by settings (before i)
      (event_at (settings_of settings) formats steps i)
  gives i stored =
      (λ q. stepped settings (stored.servers q) (stored.clients q) (stored.slots q) (step_at list i))
      ∙ stored_stepped settings allowed (before i)
      (well_formed_lem (settings_of settings) formats allowed.accepted lawful steps i) (step_at list i)
      ∙ ap (λ (y : model.Step). stored_by settings (before i)
      (model.event_of (settings_of settings) formats (before i) y)) (sym (same_step list i))

  module _ (new : Stored new_world start.servers start.clients start.slots) where
    stands : (i : ℕ) → Stands i
    unfolding state_at world_at
    stands zero = new
    stands (suc i) =
        let e = gives i (stands i) in record { servers = cc; clients = cc; slots = cc }

    from_new : AlongSteps settings start list
    from_new =
        record {
          states = stands;
          answers = λ i. ap (λ (z : After). z.answer) (gives i (stands i));
          demand_three = theorem.demand_three_lem (settings_of settings) allowed.accepted steps;
        }

-- ---- from an accepted setup on

-- whatever the memory held before: states and answers along any list are the history's, and demand 3 holds
pub along_steps : (f n count faulty : ℕ) (settings : Settings) → setup_of f n count faulty ≡ Ok settings
    → (servers clients slots : List ℕ) (list : List Step)
    → AlongSteps settings (start_of (set_up_by (setup_of f n count faulty) servers clients slots)) list
along_steps f n count faulty settings e servers clients slots list =
    let setup = setup_of f n count faulty in
    let left = set_up_by setup servers clients slots in
    let is = set_up_answer setup servers clients slots left.answer left.servers left.clients
    left.slots refl ∙ e in
    from_new settings (allowed_set f n count faulty settings e) (start_of left) list
    (set_up_stored setup servers clients slots left.answer left.servers left.clients
    left.slots refl settings is)
