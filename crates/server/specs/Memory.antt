-- A server in lent memory: two numbers of 64 bits, the pair and the readers (01, 'Keeper').
--
-- In order: the places; a server loaded from memory and its numbers; the model's server in memory (`view`),
-- and back (`store`); soundness. The server by value, which lives only inside a step, is in `State`.
-- Assumes nothing.
use Rattle.std.specs.Prelude.{ℕ, ◌%◌, ◌^◌, Bool, ◌&&◌, List, [], ◌∷◌, eqb, ltb, length, get_or}
use Rattle.register.specs.Server as model
use Rattle.register.specs.Settings.{most_clients}
use Rattle.server.specs.declared.Server.{Server}
use Rattle.server.specs.State as state

-- the place of the pair
abbrev pub pair_at : ℕ
pair_at = 0

-- the place of the readers, client d as bit d - 1
abbrev pub readers_at : ℕ
readers_at = 1

-- how many numbers a server has
abbrev pub server_length : ℕ
server_length = 2

-- the server that stands in memory; of the readers the low byte, so that any numbers are a server
unfoldable pub loaded : List ℕ → Server
loaded memory =
    record { pair = record { 0 = get_or memory pair_at 0 }; readers = get_or memory readers_at 0 % 2 ^ 8 }

-- its numbers
unfoldable pub numbers_of : Server → List ℕ
numbers_of server = server.pair.0 ∷ server.readers ∷ []

-- the model's server
unfoldable pub view : List ℕ → model.Server
view memory = state.view (loaded memory)

-- and back
unfoldable pub store : model.Server → List ℕ
store server = numbers_of (state.store server)

-- two numbers, and no reader but clients 1 to 6 (01: 'unused places are zero'); every pair of 64 bits is in
-- range
unfoldable pub is_sound : List ℕ → Bool
is_sound memory = eqb (length memory) server_length && ltb (get_or memory readers_at 0) (2 ^ most_clients)
