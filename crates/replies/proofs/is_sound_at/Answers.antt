-- `is_sound_at`: the definition's tests.
-- Assumes nothing.
use mathlib.Core.Bool.{and-true}
use Rattle.replies.specs.Sound.{is_sound_at, is_padded}
use Rattle.replies.proofs.is_sound_at.Goals as goal

pub returns : goal.returns
unfolding is_sound_at
returns c =
    rw (
      c.is_within-noted.ensures,
      c.is_within-size.ensures,
      c.is_within-ack.ensures,
      c.is_rising.ensures,
      c.is_padded.ensures,
      and-true (is_padded c.args.replies.now c.args.i),
    )
