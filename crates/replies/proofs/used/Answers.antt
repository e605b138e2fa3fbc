-- `used`: the test says that a number is in use. Assumes nothing.
use Rattle.basics.proofs.Prelude.{rules}
use Rattle.replies.specs.Loops.{is_used}
use Rattle.replies.proofs.used.Goals as goal

pub returns : goal.returns
returns c = c.count_where.ensures (is_used c.args.replies.now c.args.at) (λ i answer less gives. search rules)
