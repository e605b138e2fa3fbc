-- `is_at_most`: zero is no timestamp, and of another number one less is compared.
-- Assumes nothing.
use Rattle.basics.proofs.Prelude.{sym, rules}
use Rattle.register.specs.Client.{is_at_most}
use Rattle.replies.specs.Replies.{note_of}
use Rattle.replies.proofs.Places.{at_most_used}
use Rattle.replies.proofs.is_at_most.Goals as goal

pub returns-then-number-eq0 : goal.returns-then-number-eq0
unfolding is_at_most note_of
returns-then-number-eq0 c = rw c.if-number-eq0.true

pub returns : goal.returns
returns c = sym (at_most_used _ _ (search rules))
