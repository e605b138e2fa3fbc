-- `pairs`: as many numbers as the size says, and at most four. Assumes nothing.
use Rattle.basics.proofs.Prelude.{arith}
use Rattle.replies.proofs.Places.{numbers_at}
use Rattle.replies.proofs.pairs.Goals as goal

pub returns : goal.returns
returns c =
    numbers_at c.args.replies.now c.args.i c.told-replies c.requires _ _ c.size_of.ensures.0 (omega arith)
