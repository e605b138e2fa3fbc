-- `are_servers_sound`: the chain tests each server. Assumes nothing.
use Rattle.std.proofs.Common.{rules, tests}
use Rattle.basics.proofs.Chains.{all_over}
use Rattle.register.proofs.Vocabulary.{most_servers}
use Rattle.state.specs.State.{server_start}
use Rattle.state.specs.Sound.{server_test, are_servers_sound}
use Rattle.state.proofs.sound.are_servers_sound.Goals as goal

pub returns : goal.returns
unfolding are_servers_sound
returns c =
    let a = c.args in
    all_over (λ j. server_test a.settings a.servers.now j (server_start j)) most_servers _ _ _ c.all.ensures.ran
    (λ x b q k. search (rules, tests))
