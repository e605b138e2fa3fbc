-- When a state is sound (01, 'Rehearsal': 'A state is sound when ..').
--
-- In order: the settings; lengths; the stopped clients; a server; a client; the channels between two; a
-- state.
-- Assumes nothing.
use Rattle.std.specs.Prelude.{ℕ, suc, ◌+◌, ◌^◌, Bool, true, false, cond, not, ◌&&◌, ◌||◌, List, [], ◌∷◌, eqb, leb, ltb, length, get_or}
use Rattle.std.specs.Prelude.{Option, None, Some}
use Rattle.basics.specs.Tests.{all_pass, all_below}
use Rattle.basics.specs.BitSets.{contains}
use Rattle.refusal.specs.declared.Refusal.{Refusal}
use Rattle.message.specs.Pair.{pair_bits}
use Rattle.register.specs.Settings.{most_servers, most_clients, is_server, is_honest, setup_refusal}
use Rattle.channel.specs.Memory.{slots_length, count_at}
use Rattle.channel.specs.Sound.{sound}
use Rattle.server.specs.Memory as server
use Rattle.client.specs.Memory as client
use Rattle.client.specs.Sound.{is_sound_memory}
use Rattle.state.specs.declared.Settings.{Settings}
use Rattle.state.specs.State.{settings_of, servers_length, clients_length, server_start}
use Rattle.state.specs.State.{stopped_in, client_at, up_index, down_index}

-- ---- the settings

abbrev pub is_none : Option Refusal → Bool
is_none None = true
is_none (Some r) = false

-- 'its settings are allowed': a setup takes them, and no bit beyond the 13 marks is set
unfoldable pub are_allowed : Settings → Bool
are_allowed settings = is_none (setup_refusal (settings_of settings)) && ltb settings.faulty (2 ^ most_servers)

-- the mark at place i is of a server that there is, or not set
abbrev pub is_mark_fine : Settings → ℕ → Bool
is_mark_fine settings i = leb (suc i) settings.n || not (contains settings.faulty (suc i))

-- ---- 'lengths and fields are in range'

abbrev pub length_tests : List ℕ → List ℕ → List ℕ → List Bool
length_tests servers clients slots =
    eqb (length servers) servers_length
    ∷ eqb (length clients) clients_length
    ∷ eqb (length slots) slots_length
    ∷ []

unfoldable pub are_long : List ℕ → List ℕ → List ℕ → Bool
are_long servers clients slots = all_pass (length_tests servers clients slots)

-- no client but those that there are has stopped
abbrev pub is_stopped_sound : Settings → List ℕ → Bool
is_stopped_sound settings clients = ltb (stopped_in clients) (2 ^ settings.clients)

-- ---- the server at place j: an honest one's pair has 64 bits, and only clients read; any other is unused

unfoldable pub is_server_sound : Settings → ℕ → ℕ → ℕ → Bool
is_server_sound settings j pair readers =
    cond (is_honest (settings_of settings) (suc j))
    (ltb pair (2 ^ pair_bits) && ltb readers (2 ^ settings.clients))
    (eqb pair 0 && eqb readers 0)

-- the one whose memory begins at `at`
abbrev pub server_test : Settings → List ℕ → ℕ → ℕ → Bool
server_test settings servers j at =
    is_server_sound settings j (get_or servers (at + server.pair_at) 0) (get_or servers (at + server.readers_at) 0)

unfoldable pub are_servers_sound : Settings → List ℕ → Bool
are_servers_sound settings servers = all_below (λ j. server_test settings servers j (server_start j)) most_servers

-- ---- the client at place i: sound by the client's own test; where there is none, idle at read number 0

unfoldable pub is_client_sound : Settings → ℕ → List ℕ → Bool
is_client_sound settings i memory =
    is_sound_memory settings.n settings.f memory
    && (ltb i settings.clients
    || (eqb (get_or memory client.reads_at 0) 0 && eqb (get_or memory client.phase_at 0) 0))

-- every number has 64 bits
unfoldable pub are_small : List ℕ → Bool
are_small clients = all_below (λ i. ltb (get_or clients i 0) (2 ^ 64)) clients_length

-- client i + 1, in the memory of all clients
abbrev pub client_test : Settings → List ℕ → ℕ → Bool
client_test settings clients i = is_client_sound settings i (client_at clients i)

unfoldable pub are_clients_sound : Settings → List ℕ → Bool
are_clients_sound settings clients = are_small clients && all_below (client_test settings clients) most_clients

-- ---- 'wires that drop are empty', and those that are not used: used are the ones from a client to an honest
-- server, and from a server to a client that works

abbrev pub uses_up : Settings → ℕ → ℕ → Bool
uses_up settings i j = ltb i settings.clients && is_honest (settings_of settings) (suc j)

abbrev pub uses_down : Settings → ℕ → ℕ → ℕ → Bool
uses_down settings stopped i j =
    ltb i settings.clients && is_server (settings_of settings) (suc j) && not (contains stopped (suc i))

-- a channel is empty or used
abbrev pub empty_or : Bool → List ℕ → ℕ → Bool
empty_or used slots c = eqb (count_at slots c) 0 || used

unfoldable pub is_link_sound : Settings → ℕ → List ℕ → ℕ → ℕ → Bool
is_link_sound settings stopped slots i j =
    empty_or (uses_up settings i j) slots (up_index i j)
    && empty_or (uses_down settings stopped i j) slots (down_index i j)

unfoldable pub are_links_sound : Settings → ℕ → List ℕ → ℕ → Bool
are_links_sound settings stopped slots i = all_below (is_link_sound settings stopped slots i) most_servers

-- 'desk wires hold kinds 1, 3, 4 and keeper wires 2, 5, 6, none a misprint' is the channels' own test
unfoldable pub are_channels_sound : Settings → ℕ → List ℕ → Bool
are_channels_sound settings stopped slots =
    all_below (are_links_sound settings stopped slots) most_clients && sound slots

-- ---- a state

abbrev pub sound_tests : Settings → List ℕ → List ℕ → List ℕ → List Bool
sound_tests settings servers clients slots =
    are_allowed settings
    ∷ are_long servers clients slots
    ∷ is_stopped_sound settings clients
    ∷ are_servers_sound settings servers
    ∷ are_clients_sound settings clients
    ∷ are_channels_sound settings (stopped_in clients) slots
    ∷ []

unfoldable pub is_sound : Settings → List ℕ → List ℕ → List ℕ → Bool
is_sound settings servers clients slots = all_pass (sound_tests settings servers clients slots)
