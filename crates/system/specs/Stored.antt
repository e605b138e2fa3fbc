-- The memory that a world stands in.
-- Assumes nothing.
use Rattle.std.specs.Prelude.{ℕ, ◌≡◌, List}
use Rattle.register.specs.World.{World}
use Rattle.state.specs.State.{store_servers, store_clients, store_slots}

-- servers, clients and slots are those of the world
pub record Stored (world : World) (given_servers given_clients given_slots : List ℕ) : Type 0 where
  pub servers : given_servers ≡ store_servers world
  pub clients : given_clients ≡ store_clients world
  pub slots : given_slots ≡ store_slots world
