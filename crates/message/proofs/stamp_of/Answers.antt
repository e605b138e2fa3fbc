-- `stamp_of`: the first 24 bits.
use Rattle.basics.proofs.Prelude.{refl}
use Rattle.message.specs.Pair.{stamp}
use Rattle.message.proofs.stamp_of.Goals as goal

pub returns : goal.returns
unfolding stamp
returns c = refl
