-- One turn of a run: a step on the memory of a well-formed world leaves the next world stored, and answers
-- as the model.
--
-- Why: the code's account of the step is the model's (`MemoryIsModel`).
-- Assumes nothing.
use Rattle.basics.proofs.Prelude.{◌≡◌, ◌∙◌, List, ℕ}
use Rattle.register.specs.declared.Step.{Step}
use Rattle.register.proofs.Vocabulary.{formats, Accepted, event_of, World, Event, WellFormed}
use Rattle.state.specs.declared.Settings.{Settings}
use Rattle.state.specs.State.{settings_of, step_of}
use Rattle.steps.specs.InMemory.{After, in_memory}
use Rattle.steps.proofs.MemoryIsModel.{memory_is_model}
use Rattle.system.specs.Step.{stored_by}
use Rattle.system.specs.Stored.{Stored}

-- the event of a step in a world
abbrev pub event_in : Settings → World → Step → Event
event_in settings world asked = event_of (settings_of settings) formats world (step_of asked)

module _ (settings : Settings) (accepted : Accepted (settings_of settings)) (world : World)
    (well : WellFormed (settings_of settings) formats world) (servers clients slots : List ℕ)
    (stored : Stored world servers clients slots) where
  pub is_stored : (asked : Step) (given : After) → given ≡ in_memory settings servers clients slots asked
      → given ≡ stored_by settings world (event_in settings world asked)
  is_stored asked given is =
      is ∙ (λ i. in_memory settings (stored.servers i) (stored.clients i) (stored.slots i) asked)
      ∙ memory_is_model settings accepted world well asked
