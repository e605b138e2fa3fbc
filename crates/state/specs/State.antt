-- The state in memory, and the world that it stands for (01, 'Rehearsal').
--
-- The settings go by value. All else stands in three lent arrays of numbers: the servers, two numbers each;
-- the stopped clients as bits, and behind them the clients, 95 numbers each; the slots of the channels.
-- `store..` says how each part of a world stands in memory, `view` which world a state stands for. All zero
-- is the setup.
--
-- In order: settings and steps; where each part stands; a world stored; the world of a state.
-- Assumes nothing.
use Rattle.std.specs.Prelude.{ℕ, suc, ◌+◌, ◌-◌, ◌*◌, ◌/◌, ◌%◌, ◌^◌, cond, ◌&&◌, List, [], ◌∷◌, ltb, get_or, set}
use Rattle.basics.specs.Bytes.{big_endian}
use Rattle.basics.specs.Tables.{tabled, part_at, put_part}
use Rattle.basics.specs.BitSets.{contains, set_of}
use Rattle.basics.specs.Tests.{is_up_to}
use Rattle.message.specs.declared.Message.{Message}
use Rattle.message.specs.Layout.{Unpacked}
use Rattle.message.specs.declared.Words.{Words}
use Rattle.message.specs.Layout.{message_bytes, message_of, words_number, head_bits}
use Rattle.register.specs.declared.Step.{Step}
use Rattle.register.specs.declared.Step.TheVariants as code
use Rattle.register.specs.Client.{new_client}
use Rattle.register.specs.Server.{new_server}
use Rattle.register.specs.Settings.{most_servers, most_clients}
use Rattle.register.specs.Settings as model
use Rattle.register.specs.Steps as steps
use Rattle.register.specs.World.{World}
use Rattle.channel.specs.Memory.{upward, oldest_on}
use Rattle.channel.specs.Layout.{layout}
use Rattle.channel.specs.Sound.{messages}
use Rattle.server.specs.Memory as server
use Rattle.server.specs.Memory.{server_length}
use Rattle.client.specs.Memory as client
use Rattle.client.specs.Memory.{client_length}
use Rattle.state.specs.declared.Settings.{Settings}

-- ---- settings and steps

-- the settings: server k is faulty where its bit is set
unfoldable pub settings_of : Settings → model.Settings
settings_of settings =
    record {
      f = settings.f;
      n = settings.n;
      clients = settings.clients;
      faulty = contains settings.faulty;
    }

-- the bytes that two words stand for: eleven, or none where the first has more than 24 bits
unfoldable pub bytes_in : Words → List ℕ
bytes_in words = cond (ltb words.0 (2 ^ head_bits)) (big_endian message_bytes (words_number words)) []

-- the step that a step of the code is
unfoldable pub step_of : Step → steps.Step
step_of (code.R d) = steps.R d
step_of (code.W d entry) = steps.W d entry
step_of (code.K k d) = steps.K k d
step_of (code.D d k) = steps.D d k
step_of (code.C d) = steps.C d
step_of (code.L k d words) = steps.L k d (bytes_in words)

-- ---- where each part stands; places count from 0: client d is at place d - 1, server k at place k - 1

-- the memory of the server at place j
abbrev pub server_start : ℕ → ℕ
server_start j = j * server_length

-- numbers of all servers
abbrev pub servers_length : ℕ
servers_length = server_start most_servers

abbrev pub server_at : List ℕ → ℕ → List ℕ
server_at servers j = part_at (server_start j) server_length servers

abbrev pub put_server : List ℕ → ℕ → List ℕ → List ℕ
put_server servers j memory = put_part (server_start j) server_length servers memory

-- the place of the stopped clients, and behind it where the memory of the clients begins
abbrev pub stopped_at : ℕ
stopped_at = 0

abbrev pub first_client : ℕ
first_client = stopped_at + 1

-- the stopped clients, as bits
abbrev pub stopped_in : List ℕ → ℕ
stopped_in clients = get_or clients stopped_at 0

abbrev pub put_stopped : List ℕ → ℕ → List ℕ
put_stopped clients stopped = set clients stopped_at stopped

-- the memory of the client at place i
abbrev pub client_start : ℕ → ℕ
client_start i = first_client + i * client_length

-- numbers of all clients, with the stopped ones
abbrev pub clients_length : ℕ
clients_length = client_start most_clients

abbrev pub client_at : List ℕ → ℕ → List ℕ
client_at clients i = part_at (client_start i) client_length clients

abbrev pub put_client : List ℕ → ℕ → List ℕ → List ℕ
put_client clients i memory = put_part (client_start i) client_length clients memory

-- the channel from the client at place i to the server at place j, and the one back
abbrev pub up_index : ℕ → ℕ → ℕ
up_index i j = i * most_servers + j

abbrev pub down_index : ℕ → ℕ → ℕ
down_index i j = upward + up_index i j

-- what stands oldest on channel c
abbrev pub message_at : List ℕ → ℕ → Unpacked
message_at slots c = message_of (words_number (oldest_on slots c))

-- ---- a world stored

unfoldable pub store_servers : World → List ℕ
store_servers world = tabled (λ j. server.store (world.servers (suc j))) most_servers

unfoldable pub store_stopped : World → ℕ
store_stopped world = set_of world.stopped most_clients

unfoldable pub store_clients : World → List ℕ
unfolding store_stopped
store_clients world = store_stopped world ∷ tabled (λ i. client.store (world.clients (suc i))) most_clients

-- the messages of channel c, of those up and those down
abbrev pub table_at : (ℕ → ℕ → List Message) → (ℕ → ℕ → List Message) → ℕ → List Message
table_at up down c =
    cond (ltb c upward) (up (suc (c / most_servers)) (suc (c % most_servers)))
    (down (suc ((c - upward) / most_servers)) (suc ((c - upward) % most_servers)))

unfoldable pub channel_of : World → ℕ → List Message
channel_of world c = table_at world.up world.down c

unfoldable pub store_slots : World → List ℕ
unfolding channel_of
store_slots world = layout (channel_of world)

-- ---- the world of a state

-- what stands at a place that there is, and otherwise what stands there at setup
unfoldable pub view : List ℕ → List ℕ → List ℕ → World
view servers clients slots =
    record {
      servers = λ k. cond (is_up_to most_servers k) (server.view (server_at servers (k - 1))) new_server;
      clients = λ d. cond (is_up_to most_clients d) (client.view (client_at clients (d - 1))) new_client;
      stopped = contains (stopped_in clients);
      up = λ d k. cond (is_up_to most_clients d && is_up_to most_servers k)
          (messages slots (up_index (d - 1) (k - 1))) [];
      down = λ d k. cond (is_up_to most_clients d && is_up_to most_servers k)
          (messages slots (down_index (d - 1) (k - 1))) [];
    }
