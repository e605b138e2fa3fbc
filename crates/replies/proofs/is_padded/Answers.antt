-- `is_padded`: each of the four numbers belongs to a pair or is zero.
-- Assumes nothing.
use Rattle.basics.proofs.Prelude.{arith}
use Rattle.register.proofs.Vocabulary.{all_below}
use Rattle.replies.specs.Sound.{is_padded}
use Rattle.replies.proofs.Places.{number_at}
use Rattle.replies.proofs.is_padded.Goals as goal

pub returns : goal.returns
unfolding is_padded all_below
returns c =
    let number = number_at c.args.replies.now c.args.i c.told-replies c.requires c.four.result c.four.ensures in
    rw (number 0 (omega arith), number 1 (omega arith), number 2 (omega arith), number 3 (omega arith))
