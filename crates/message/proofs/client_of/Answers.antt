-- `client_of`: a mask of four ones is the remainder by sixteen.
use Rattle.basics.proofs.Prelude.{◌/◌, ◌^◌}
use lib.Bits.{and_mask}
use Rattle.message.specs.Pair.{client_bits, client_at, client}
use Rattle.message.proofs.client_of.Goals as goal

pub returns : goal.returns
unfolding client
returns c = and_mask (c.args.pair.0 / 2 ^ client_at) client_bits
