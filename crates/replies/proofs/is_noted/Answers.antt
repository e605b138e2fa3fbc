-- `is_noted`: a number that is not zero.
-- Assumes nothing.
use Rattle.basics.proofs.Prelude.{sym, ap, ◌∙◌, rules}
use Rattle.register.specs.Client.{is_noted}
use Rattle.replies.specs.Replies.{note_at}
use Rattle.replies.proofs.Places.{noted_at, noted_used}
use Rattle.replies.proofs.is_noted.Goals as goal

pub returns : goal.returns
returns c =
    let replies = c.before.args.replies.now in
    let i = c.before.args.i in
    sym (ap is_noted (noted_at replies i (search rules)) ∙ noted_used (note_at replies i))
