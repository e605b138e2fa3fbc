-- `holders`: the test says that a set has the pair. Assumes nothing.
use Rattle.basics.proofs.Prelude.{suc, rules}
use Rattle.register.proofs.Vocabulary.{has}
use Rattle.replies.specs.Replies.{set_in}
use Rattle.replies.proofs.holders.Goals as goal

pub returns : goal.returns
returns c =
    c.count_where.ensures (λ i. has c.args.pair (set_in c.args.replies.now (suc i)))
    (λ i answer less gives. search rules)
