-- A list of steps through the public `step`, from the memory that a setup left (01, 'The words of demand 3':
-- 'Each step is given the state that the step before returned, and nobody else writes it in between').
--
-- In order: a step of the list; the memory of a state; the state that a step is given, and what it answers;
-- what holds of the list. That it holds of every list, from every accepted setup on, is `along_steps` in
-- proofs/Histories.
-- Assumes nothing.
use Rattle.std.specs.Prelude.{ℕ, zero, suc, ◌≡◌, List, map, get_or}
use Rattle.register.specs.declared.Step.{Step}
use Rattle.register.specs.declared.Step.TheVariants.{R}
use Rattle.register.specs.DemandThree.{DemandThreeOf}
use Rattle.register.specs.Formats.{formats}
use Rattle.register.specs.World.{StepAnswer}
use Rattle.register.specs.History.{world_at, answer_at}
use Rattle.state.specs.declared.Settings.{Settings}
use Rattle.state.specs.State.{settings_of, step_of}
use Rattle.steps.specs.After.{After}
use Rattle.system.specs.Setup.{SetUp}
use Rattle.system.specs.Step.{stepped}
use Rattle.system.specs.Stored.{Stored}

-- step number i; past the end of the list stands a step that every state refuses
abbrev pub step_at : List Step → ℕ → Step
step_at steps i = get_or steps i (R 0)

-- the memory of a state
pub record Memory : Type 0 where
  pub servers : List ℕ
  pub clients : List ℕ
  pub slots : List ℕ

-- what `set_up` and `step` return behind their answers
abbrev pub start_of : SetUp → Memory
start_of outcome = record { servers = outcome.servers; clients = outcome.clients; slots = outcome.slots }

abbrev pub memory_of : After → Memory
memory_of outcome = record { servers = outcome.servers; clients = outcome.clients; slots = outcome.slots }

-- `step`, given a state
abbrev pub step_from : Settings → Memory → Step → After
step_from settings memory asked = stepped settings memory.servers memory.clients memory.slots asked

module _ (settings : Settings) (start : Memory) (steps : List Step) where
  -- the state that step i is given: first the setup's, then what the step before returned
  unfoldable pub state_at : ℕ → Memory
  state_at zero = start
  state_at (suc i) = memory_of (step_from settings (state_at i) (step_at steps i))

  -- what step i answers
  abbrev pub answered_at : ℕ → StepAnswer
  answered_at i = (step_from settings (state_at i) (step_at steps i)).answer

  -- the list's states and answers are those of its history
  pub record AlongSteps : Type 0 where
    -- the state that step i is given is the memory of the history's world before step i
    pub states : (i : ℕ)
        → Stored (world_at (settings_of settings) formats (map step_of steps) i)
        (state_at i).servers (state_at i).clients (state_at i).slots
    -- step i answers as the history says
    pub answers : (i : ℕ) → answered_at i ≡ answer_at (settings_of settings) formats (map step_of steps) i
    -- demand 3 holds of that history
    pub demand_three : DemandThreeOf (settings_of settings) (map step_of steps)
