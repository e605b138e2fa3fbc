-- `run`: on a sound state `make_step` may be called, and gives there what the public step gives (`StepLaws`).
-- Assumes nothing.
use Rattle.state.proofs.SoundFacts.{facts}
use Rattle.system.proofs.ReadyLaws.{ready}
use Rattle.system.proofs.StepLaws.{step_law}
use Rattle.system.proofs.run.run.Goals as goal

pub run_by-requires : goal.run_by-requires
run_by-requires c =
    record {
      callable = λ settings asked state sound.
          ready _ _ _ _ (facts _ _ _ _ sound);
      makes = λ settings asked state answer state' sound gives.
          step_law _ _ _ _ sound asked _ gives.2;
    }
