-- `are_clients_sound`: the chain tests each client. Every number has 64 bits by its type. Assumes nothing.
use Rattle.std.proofs.Common.{rules, tests}
use Rattle.basics.proofs.Prelude.{◌≡◌, true, List, get_or, ℕ, ◌^◌, ◌<◌}
use Rattle.basics.proofs.Prelude.{ltb, lt-ltb}
use Rattle.basics.proofs.Tests.{below_of}
use Rattle.basics.proofs.Chains.{all_over}
use Rattle.register.proofs.Vocabulary.{most_clients}
use Rattle.state.specs.State.{clients_length}
use Rattle.state.specs.Sound.{are_small, client_test, are_clients_sound}
use Rattle.state.proofs.sound.are_clients_sound.Goals as goal

small : (l : List ℕ) → ((i : ℕ) → get_or l i 0 < 2 ^ 64) → are_small l ≡ true
unfolding are_small
small l h =
    below_of (λ i. ltb (get_or l i 0) (2 ^ 64)) clients_length
    (λ i less. lt-ltb (get_or l i 0) (2 ^ 64) (h i))

pub returns : goal.returns
unfolding are_clients_sound
returns c =
    let a = c.args in
    rw (small _ c.fits-clients)
    (all_over (client_test a.settings a.clients.now) most_clients _ _ _ c.all.ensures.ran (λ x b q k. search (rules, tests)))
