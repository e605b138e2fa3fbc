-- `channel::oldest` meets its contract: the two numbers of the first slot. Assumes nothing.
use Rattle.basics.proofs.Prelude.{refl}
use Rattle.channel.specs.Memory.{oldest_on}
use Rattle.channel.proofs.oldest.Goals as goal

pub returns : goal.returns
unfolding oldest_on
returns c = refl
