-- `holds`: each of the four numbers is read, and says something where it belongs to the set.
-- Assumes nothing.
use Rattle.replies.specs.Replies.{size_at}
use Rattle.replies.proofs.Places.{set_read}
use Rattle.replies.proofs.Steps.{has_four}
use Rattle.replies.proofs.holds.Goals as goal

pub returns : goal.returns
returns c =
    let replies = c.args.replies.now in
    rw (c.size_of-size.ensures.0, set_read replies c.args.i c.told-replies c.requires)
    (has_four _ _ _ _ c.args.pair (size_at replies c.args.i))
