-- Each client and server have two channels of their own, one each way: no two of them are the same.
-- Assumes nothing.
use Rattle.basics.proofs.Prelude.{◌≡◌, ℕ, ◌<◌, arith}
use Rattle.register.specs.Settings.{most_servers, most_clients}
use Rattle.channel.specs.Memory.{upward, channels}
use Rattle.state.specs.State.{up_index, down_index}

-- the client at place i, the server at place j
module _ (i j : ℕ) (client : i < most_clients) (server : j < most_servers) where
  pub up_inside : up_index i j < upward
  up_inside = omega arith

  pub down_inside : down_index i j < channels
  down_inside = omega arith

  -- another client, another server
  module _ (i' j' : ℕ) (client' : i' < most_clients) (server' : j' < most_servers) where
    pub up_own : up_index i j ≡ up_index i' j' → (i ≡ i') × (j ≡ j')
    up_own e = (omega arith, omega arith)

    pub down_own : down_index i j ≡ down_index i' j' → (i ≡ i') × (j ≡ j')
    down_own e = (omega arith, omega arith)

    pub ways_differ : up_index i j ≡ down_index i' j' → ⊥
    ways_differ e = omega arith
