-- A server by value, inside a step: one pair, and its reading clients as bits of one byte (01, 'Keeper').
--
-- In order: the server of the model that it is (`view`), and back (`store`);
-- soundness. The model's server, and what it does with a message, are in the register's definitions.
-- Assumes nothing.
use Rattle.std.specs.Prelude.{◌^◌, Bool, ltb}
use Rattle.basics.specs.BitSets.{contains, set_of}
use Rattle.register.specs.Server as model
use Rattle.register.specs.Settings.{most_clients}
use Rattle.server.specs.declared.Server.{Server}

-- the model's server
unfoldable pub view : Server → model.Server
view server = record { pair = server.pair; readers = contains server.readers }

-- and back
unfoldable pub store : model.Server → Server
store server = record { pair = server.pair; readers = set_of server.readers most_clients }

-- no reader but clients 1 to 6 (01: 'unused places are zero'); every pair of 64 bits is in range
unfoldable pub sound : Server → Bool
sound server = ltb server.readers (2 ^ most_clients)
