-- `is_rising`: each of the four numbers is read, and is below the next where both belong to the set.
-- Assumes nothing.
use Rattle.replies.specs.Replies.{size_at}
use Rattle.replies.proofs.Places.{set_four}
use Rattle.replies.proofs.Steps.{rising_four}
use Rattle.replies.proofs.is_rising.Goals as goal

pub returns : goal.returns
returns c =
    let replies = c.args.replies.now in
    rw (c.size_of-size.ensures.0, set_four replies c.args.i c.told-replies c.requires c.four.result c.four.ensures)
    (rising_four _ _ _ _ (size_at replies c.args.i))
