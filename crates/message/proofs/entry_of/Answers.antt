-- `entry_of`: a mask of forty ones is the remainder.
use lib.Bits.{and_mask}
use Rattle.message.specs.Pair.{entry_bits, entry}
use Rattle.message.proofs.entry_of.Goals as goal

pub returns : goal.returns
unfolding entry
returns c = let e = and_mask c.args.pair.0 entry_bits in λ i. record { 0 = e i }
