-- What a run asks of the function that makes its steps.
-- A reader of the public contracts needs none of it.
-- Assumes nothing.
use Rattle.std.specs.Prelude.{◌≡◌, true}
use Rattle.std.proofs.Common.{MutBor}
use Rattle.register.specs.World.{StepAnswer}
use Rattle.register.specs.declared.Step.{Step}
use Rattle.state.specs.declared.Settings.{Settings}
use Rattle.state.specs.declared.State.{State}
use Rattle.state.specs.Sound.{is_sound}
use Rattle.steps.specs.After.{after}
use Rattle.system.specs.Step.{stepped}

-- it may be called on a sound state, and gives there what the public step gives
pub record MakesSteps (pre : Settings → Step → MutBor State → Type 0)
    (post : Settings → Step → MutBor State → StepAnswer → MutBor State → Type 0) : Type 0 where
  pub callable : (settings : Settings) (asked : Step) (state : MutBor State)
      → is_sound settings state.now.servers state.now.clients state.now.slots ≡ true → pre settings asked state
  pub makes : (settings : Settings) (asked : Step) (state : MutBor State) (answer : StepAnswer) (state' : MutBor State)
      → is_sound settings state.now.servers state.now.clients state.now.slots ≡ true
      → post settings asked state answer state'
      → after answer state'.now.servers state'.now.clients state'.now.slots
      ≡ stepped settings state.now.servers state.now.clients state.now.slots asked
