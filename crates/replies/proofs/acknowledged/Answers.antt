-- `acknowledged`: a server has acknowledged where its number is in use.
-- Assumes nothing.
use Rattle.basics.proofs.Prelude.{sym, ◌∙◌, suc, arith}
use Rattle.replies.specs.Replies.{acks_at, ack_in}
use Rattle.replies.specs.Loops.{is_used}
use Rattle.replies.proofs.Places.{ack_at_lem}
use Rattle.replies.proofs.Steps.{count_same}
use Rattle.replies.proofs.acknowledged.Goals as goal

pub returns : goal.returns
returns c =
    let replies = c.args.replies.now in
    c.used.ensures ∙ count_same (is_used replies acks_at) (λ i. ack_in replies (suc i)) c.args.n
    (λ i less. sym (ack_at_lem replies i (omega arith)))
