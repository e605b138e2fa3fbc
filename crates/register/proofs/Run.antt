-- A run: an accepted setup and a list of steps, with what the proof asks of the formats.
--
-- All invariants are proved of the world before step i, for every i, by induction over i; past the end of the
-- list every step is refused, so nothing changes there.
-- Assumes nothing.
use Rattle.basics.proofs.Prelude.{List, ℕ}
use Rattle.register.proofs.Vocabulary.{Settings, Accepted, World, Event, Step, Formats, step_at}
use Rattle.register.proofs.Vocabulary.{world_at, answer_at, StepAnswer}
use Rattle.register.specs.History.{event_at}
use Rattle.register.proofs.Bounds.{Bounds, bounds}
use Rattle.register.proofs.Enabled.{Enabled, enabled}
pub use Rattle.register.proofs.Lawful.{Lawful}

pub record Run : Type 0 where
  pub settings : Settings
  pub judge : Formats
  pub steps : List Step
  pub accepted : Accepted settings
  pub lawful : Lawful judge

module _ (run : Run) where
  abbrev pub step_in : ℕ → Step
  step_in i = step_at run.settings run.judge run.steps i

  abbrev pub world_in : ℕ → World
  world_in i = world_at run.settings run.judge run.steps i

  abbrev pub event_in : ℕ → Event
  event_in i = event_at run.settings run.judge run.steps i

  abbrev pub answer_in : ℕ → StepAnswer
  answer_in i = answer_at run.settings run.judge run.steps i

  pub enabled_at : (i : ℕ) → Enabled run.settings run.judge (world_in i) (event_in i)
  enabled_at i = enabled run.settings run.judge (world_in i) (step_in i)

  pub bounded : Bounds run.settings
  bounded = bounds run.settings run.accepted
