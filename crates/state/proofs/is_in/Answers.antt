-- `is_in`: a mask of one bit is the remainder by two. Assumes nothing.
use Rattle.basics.proofs.Prelude.{ap, ℕ, ◌/◌, ◌^◌, eqb}
use lib.Bits.{and_mask}
use Rattle.basics.specs.BitSets.{contains}
use Rattle.state.proofs.is_in.Goals as goal

pub returns : goal.returns
unfolding contains
returns c = ap (λ (bit : ℕ). eqb bit 1) (and_mask (c.args.set / 2 ^ c.args.i) 1)
