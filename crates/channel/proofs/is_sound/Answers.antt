-- `channel::is_sound`: the chain tests each channel in turn. Assumes nothing.
use Rattle.basics.proofs.Prelude.{rules}
use Rattle.basics.proofs.Chains.{all_over}
use Rattle.channel.specs.Memory.{channels}
use Rattle.channel.specs.Sound.{sound}
use Rattle.channel.proofs.is_sound.Goals as goal

pub returns : goal.returns
unfolding sound
returns c = all_over _ channels _ _ _ c.all.ensures.ran (λ x b q k. search rules)
