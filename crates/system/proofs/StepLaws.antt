-- The code's account of a step of a sound state is the step of the state.
--
-- A sound state is the stored form of the world that it stands for (`state`), and that world is well
-- formed; so one turn (`Turn`) is the model's step, stored, and so is the step of the state
-- (`Refusals.sound_step`).
-- Assumes nothing.
use Rattle.basics.proofs.Prelude.{◌≡◌, sym, ◌∙◌, true, List, ℕ}
use Rattle.register.specs.declared.Step.{Step}
use Rattle.state.specs.declared.Settings.{Settings}
use Rattle.state.specs.Sound.{is_sound}
use Rattle.state.specs.State.{view}
use Rattle.state.proofs.SoundFacts.{Facts, facts}
use Rattle.state.proofs.WellViewed.{well_view}
use Rattle.state.proofs.Restored.{servers_back, clients_back, slots_back}
use Rattle.steps.specs.InMemory.{After, in_memory}
use Rattle.system.specs.Step.{stepped}
use Rattle.system.specs.Stored.{Stored}
use Rattle.system.proofs.Refusals.{sound_step}
use Rattle.system.proofs.Turn.{is_stored}

module _ (settings : Settings) (servers clients slots : List ℕ)
    (sound : is_sound settings servers clients slots ≡ true) where
  known : Facts settings servers clients slots
  known = facts settings servers clients slots sound

  -- a sound state is stored
  pub sound_stored : Stored (view servers clients slots) servers clients slots
  sound_stored =
      record {
        servers = sym (servers_back settings servers clients slots known);
        clients = sym (clients_back settings servers clients slots known);
        slots = sym (slots_back settings servers clients slots known);
      }

  pub step_law : (asked : Step) (given : After) → given ≡ in_memory settings servers clients slots asked
      → given ≡ stepped settings servers clients slots asked
  step_law asked given is =
      is_stored settings known.allowed.accepted (view servers clients slots)
      (well_view settings servers clients slots known) servers clients slots sound_stored asked given is
      ∙ sym (sound_step settings servers clients slots sound asked)
