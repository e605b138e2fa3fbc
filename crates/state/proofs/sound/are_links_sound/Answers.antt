-- `are_links_sound`: the chain tests the channels of each server. Assumes nothing.
use Rattle.std.proofs.Common.{rules, tests}
use Rattle.basics.proofs.Chains.{all_over}
use Rattle.register.proofs.Vocabulary.{most_servers}
use Rattle.state.specs.Sound.{is_link_sound, are_links_sound}
use Rattle.state.proofs.sound.are_links_sound.Goals as goal

pub returns : goal.returns
unfolding are_links_sound
returns c =
    let a = c.args in
    all_over (is_link_sound a.settings a.stopped a.slots.now a.i) most_servers _ _ _ c.all.ensures.ran
    (λ x b q k. search (rules, tests))
