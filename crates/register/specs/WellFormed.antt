-- A well-formed world (01, 'Rehearsal': 'A state is sound when ..'), said of the model.
--
-- In order: the messages of a channel (01: wire); a channel; a server (keeper); a phase, a set, a client
-- (desk); the world. That the settings are allowed is `Settings.Accepted`. What is not used has its value at
-- setup, so a world is the view of its table of 13 servers, 6 clients and 156 channels. That every world of a
-- run is well formed is in `proofs/Reachable`.
-- Assumes nothing.
use Rattle.std.specs.Prelude.{◌≡◌, true, false, ◌&&◌, List, [], ℕ, ◌^◌, ◌≤◌, ◌<◌, length}
use Rattle.std.specs.Prelude.{None, Some}
use Rattle.basics.specs.Members.{Member}
use Rattle.message.specs.declared.Entry.{Entry}
use Rattle.message.specs.declared.Message.{Message}
use Rattle.message.specs.declared.Message.TheVariants.{GetInfo, Info, Done, WriteInfo, Fwd, WriteAck}
use Rattle.message.specs.declared.Pair.{Pair}
use Rattle.message.specs.declared.WriteCounter.{WriteCounter}
use Rattle.message.specs.Pair.{counter_bits, stamp_bits, pair_bits}
use Rattle.message.specs.Layout.{tag_bits}
use Rattle.register.specs.declared.Phase.{Phase}
use Rattle.register.specs.declared.Phase.TheVariants.{Idle, Reading, ReadingForWrite, Storing}
use Rattle.register.specs.Settings.{Settings, is_server, is_client, is_honest, capacity}
use Rattle.register.specs.Server.{Server, new_server}
use Rattle.register.specs.PairSet.{Ordered}
use Rattle.register.specs.Client.{Client, new_client, set_limit, is_reading}
use Rattle.register.specs.World.{World}
use Rattle.register.specs.Steps.{Formats}

-- 'desk wires hold kinds 1, 3, 4': the messages from clients, with their fields in their widths
abbrev pub FromClient : Message → Type 0
FromClient (GetInfo tag) = tag.0 < 2 ^ tag_bits
FromClient (Info tag pair) = ⊥
FromClient Done = Unit {0}
FromClient (WriteInfo pair) = pair.0 < 2 ^ pair_bits
FromClient (Fwd pair) = ⊥
FromClient (WriteAck count) = ⊥

-- 'keeper wires 2, 5, 6': the messages from servers
abbrev pub FromServer : Message → Type 0
FromServer (GetInfo tag) = ⊥
FromServer (Info tag pair) = (tag.0 < 2 ^ tag_bits) × (pair.0 < 2 ^ pair_bits)
FromServer Done = ⊥
FromServer (WriteInfo pair) = ⊥
FromServer (Fwd pair) = pair.0 < 2 ^ pair_bits
FromServer (WriteAck count) = count.0 < 2 ^ counter_bits

-- a channel: at most 8 messages, each of its kinds
pub record WellChannel (Kind : Message → Type 0) (channel : List Message) : Type 0 where
  pub few : length channel ≤ capacity
  pub kinds : (message : Message) → Member message channel → Kind message

-- a server: its pair is in its width, and only clients read
pub record WellServer (settings : Settings) (self : Server) : Type 0 where
  pub pair : self.pair.0 < 2 ^ pair_bits
  pub readers : (d : ℕ) → is_client settings d ≡ false → self.readers d ≡ false

-- 'a phase's entry is a licence entry', and its counter is in its width
abbrev pub WellPhase : Formats → Phase → Type 0
WellPhase judge Idle = Unit {0}
WellPhase judge Reading = Unit {0}
WellPhase judge (ReadingForWrite entry) = judge.is_licence entry ≡ true
WellPhase judge (Storing entry count) = (judge.is_licence entry ≡ true) × (count.0 < 2 ^ counter_bits)

-- a set: 'in strict order', within its limit, its pairs in their width
pub record WellSet (set : List Pair) : Type 0 where
  pub ordered : Ordered set
  pub few : length set ≤ set_limit
  pub pairs : (pair : Pair) → Member pair set → pair.0 < 2 ^ pair_bits

-- a client
pub record WellClient (settings : Settings) (judge : Formats) (self : Client) : Type 0 where
  -- its parts are in range
  pub phase : WellPhase judge self.phase
  pub reads : self.reads.0 < 2 ^ tag_bits
  pub noted : (k stamp : ℕ) → self.noted k ≡ Some stamp → stamp < 2 ^ stamp_bits
  pub sets : (k : ℕ) → WellSet (self.sets k)
  -- noted timestamps and sets: none outside a reading phase, and none of what is no server
  pub noted_unused : (k : ℕ) → is_server settings k && is_reading self.phase ≡ false → self.noted k ≡ None
  pub sets_unused : (k : ℕ) → is_server settings k && is_reading self.phase ≡ false → self.sets k ≡ []
  -- acknowledgements: none of what is no server, and none outside storing
  pub acks_unused : (k : ℕ) → is_server settings k ≡ false → self.acks k ≡ false
  pub acks_idle : ((entry : Entry) (count : WriteCounter) → self.phase ≡ Storing entry count → ⊥)
      → (k : ℕ) → self.acks k ≡ false

-- a world
pub record WellFormed (settings : Settings) (judge : Formats) (world : World) : Type 0 where
  -- its parts are well formed
  pub server : (k : ℕ) → WellServer settings (world.servers k)
  pub client : (d : ℕ) → WellClient settings judge (world.clients d)
  pub up : (d k : ℕ) → WellChannel FromClient (world.up d k)
  pub down : (d k : ℕ) → WellChannel FromServer (world.down d k)
  -- what is not used has its value at setup: what is no honest server, no client
  pub server_unused : (k : ℕ) → is_honest settings k ≡ false → world.servers k ≡ new_server
  pub client_unused : (d : ℕ) → is_client settings d ≡ false → world.clients d ≡ new_client
  pub stopped_unused : (d : ℕ) → is_client settings d ≡ false → world.stopped d ≡ false
  -- channels of no client or no server are empty; 'wires that drop' too: to faulty servers, stopped clients
  pub up_unused : (d k : ℕ) → is_client settings d && is_honest settings k ≡ false → world.up d k ≡ []
  pub down_unused : (d k : ℕ) → is_client settings d && is_server settings k ≡ false → world.down d k ≡ []
  pub down_drops : (d k : ℕ) → world.stopped d ≡ true → world.down d k ≡ []
