-- What a step asks of the state that it is given. Every sound state has it.
-- A reader of the public contracts needs none of it.
-- Assumes nothing.
use Rattle.std.specs.Prelude.{ℕ, suc, ◌^◌, ◌≤◌, ◌<◌, true, false, List, ◌≡◌, length}
use Rattle.message.specs.Layout.{goes}
use Rattle.register.specs.Settings.{most_servers, most_clients, is_honest}
use Rattle.channel.specs.Memory.{channels, count_at}
use Rattle.channel.specs.Sound.{is_down, CountsFit}
use Rattle.server.specs.Memory as server
use Rattle.client.specs.Sound.{is_sound_memory}
use Rattle.state.specs.declared.Settings.{Settings}
use Rattle.state.specs.State.{settings_of, servers_length, server_at, clients_length, stopped_in, client_at}
use Rattle.state.specs.State.{up_index, message_at}

-- channels that drop or are not used, those to a server that is faulty or not there, hold no message
abbrev pub SpareEmpty : Settings → List ℕ → Type 0
SpareEmpty settings slots = (i j : ℕ) → i < most_clients → j < most_servers
    → is_honest (settings_of settings) (suc j) ≡ false → count_at slots (up_index i j) ≡ 0

-- the oldest message of a channel that holds one goes the channel's way
abbrev pub OldestGoes : List ℕ → Type 0
OldestGoes slots = (i : ℕ) → i < channels → 1 ≤ count_at slots i → goes (is_down i) (message_at slots i) ≡ true

-- the settings, and the three arrays
pub record Ready (settings : Settings) (servers clients slots : List ℕ) : Type 0 where
  pub few_servers : settings.n ≤ most_servers
  pub few_clients : settings.clients ≤ most_clients
  pub servers_long : length servers ≡ servers_length
  pub clients_long : length clients ≡ clients_length
  pub stopped : stopped_in clients < 2 ^ most_clients
  pub server : (j : ℕ) → j < most_servers → server.is_sound (server_at servers j) ≡ true
  pub client : (i : ℕ) → i < most_clients
      → is_sound_memory settings.n settings.f (client_at clients i) ≡ true
  pub counts : CountsFit slots
  pub spare : SpareEmpty settings slots
  pub ways : OldestGoes slots
