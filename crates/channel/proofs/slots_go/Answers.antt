-- `channel::slots_go`: the chain tests each slot in turn. Assumes nothing.
use Rattle.basics.proofs.Prelude.{rules}
use Rattle.basics.proofs.Chains.{all_over}
use Rattle.channel.proofs.slots_go.Goals as goal

pub returns : goal.returns
returns c = all_over _ c.args.n _ _ _ c.all.ensures.ran (λ x b q k. search rules)
