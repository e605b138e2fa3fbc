-- `counter_of`: a shift is a division by a power of two.
use Rattle.basics.proofs.Prelude.{refl}
use Rattle.message.specs.Pair.{counter}
use Rattle.message.proofs.counter_of.Goals as goal

pub returns : goal.returns
unfolding counter
returns c = refl
