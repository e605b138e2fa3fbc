-- `channel::zero`: the part that is filled with zeros. Assumes nothing.
use Rattle.basics.proofs.Prelude.{arith, rules}
use Rattle.channel.proofs.Filled.{zeroed_part}
use Rattle.channel.proofs.zero.Goals as goal

pub returns : goal.returns
returns c =
    zeroed_part c.args.slots.now c.args.at c.args.n _ (omega arith) (omega arith)
    (c.fill.ensures.after (λ y e. search rules))
