-- `server::store` meets its contract: two stores into two places. Assumes nothing.
use Rattle.server.specs.Memory.{numbers_of}
use Rattle.server.proofs.Memory.{two_set}
use Rattle.server.proofs.store.Goals as goal

pub returns : goal.returns
unfolding numbers_of
returns c = two_set c.args.memory.now _ _ c.requires
