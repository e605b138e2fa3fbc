-- `channel::clear` meets its contract: the channel's slots and its count are zeroed. Assumes nothing.
use Rattle.channel.specs.Memory.{cleared}
use Rattle.channel.proofs.clear.Goals as goal

pub returns : goal.returns
unfolding cleared
returns c = rw c.zero.ensures
