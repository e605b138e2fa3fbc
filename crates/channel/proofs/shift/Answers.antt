-- `channel::shift`: the part that is copied. Assumes nothing.
use Rattle.basics.proofs.Prelude.{◌∙◌, arith, rules}
use Rattle.channel.proofs.Filled.{shifted_part}
use Rattle.channel.proofs.shift.Goals as goal

pub returns : goal.returns
returns c =
    c.copy_within.ensures.after ∙ shifted_part c.args.slots.now c.args.at _ (search rules) (omega arith)
