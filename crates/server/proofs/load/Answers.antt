-- `server::load` meets its contract. Assumes nothing.
use Rattle.basics.proofs.Prelude.{refl}
use Rattle.server.specs.Memory.{loaded}
use Rattle.server.proofs.load.Goals as goal

pub returns : goal.returns
unfolding loaded
returns c = refl
