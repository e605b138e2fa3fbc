-- `exports_run_by_steps`: `step` asks for nothing, and what it gives is what is asked of it.
-- Assumes nothing.
use Rattle.exports.proofs.runs.exports_run_by_steps.Goals as goal

pub run_by-requires : goal.run_by-requires
run_by-requires c =
    record {
      callable = λ settings asked state sound. tt;
      makes = λ settings asked state answer state' sound gives. gives.2;
    }
