-- `are_channels_sound`: the chain tests the channels of each client, and then comes the channels' own test.
-- Assumes nothing.
use Rattle.std.proofs.Common.{rules, tests}
use Rattle.basics.proofs.Chains.{all_over}
use Rattle.channel.proofs.Passing.{passed, failed}
use Rattle.register.proofs.Vocabulary.{most_clients}
use Rattle.state.specs.Sound.{are_links_sound, are_channels_sound}
use Rattle.state.proofs.sound.are_channels_sound.Goals as goal

pub returns-then-all : goal.returns-then-all
unfolding are_channels_sound
returns-then-all c =
    let a = c.args in
    let each = all_over (are_links_sound a.settings a.stopped a.slots.now) most_clients _ _ c.all.result
    c.all.ensures.ran (λ x b q k. search (rules, tests)) in
    rw (passed each c.if-all.true) c.is_sound.ensures

pub returns-else-all : goal.returns-else-all
unfolding are_channels_sound
returns-else-all c =
    let a = c.args in
    let each = all_over (are_links_sound a.settings a.stopped a.slots.now) most_clients _ _ c.all.result
    c.all.ensures.ran (λ x b q k. search (rules, tests)) in
    rw (failed each c.if-all.false) c.if-all.false
