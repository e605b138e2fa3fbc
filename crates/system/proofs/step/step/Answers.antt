-- `step`: an unsound state is refused, and a sound one has what the step asks (`StepLaws`).
-- Assumes nothing.
use Rattle.basics.proofs.Prelude.{sym, ◌∙◌}
use Rattle.state.proofs.SoundFacts.{facts}
use Rattle.system.proofs.ReadyLaws.{ready}
use Rattle.system.proofs.StepLaws.{step_law}
use Rattle.system.proofs.step.step.Goals as goal

pub make_step-requires : goal.make_step-requires
make_step-requires c = ready _ _ _ _ (facts _ _ _ _ (sym c.is_sound.ensures ∙ c.if-not-is_sound.false))

pub returns : goal.returns
returns c = step_law _ _ _ _ (sym c.is_sound.ensures ∙ c.if-not-is_sound.false) _ _ c.make_step.ensures
