-- The six steps, with any arguments: when each is refused, which event it is (01, 'Rehearsal', the table).
--
-- In order: the steps; room on channels; the tests of each step's ladder (`Ladders`); the event of a step.
-- Soundness (3) is not here: every world of a run is well formed, and `state` judges the code's states.
-- Assumes nothing.
use Rattle.std.specs.Prelude.{ℕ, suc, ◌+◌, Bool, true, false, not, ◌&&◌, ◌||◌, List, [], ◌∷◌, leb, length}
use Rattle.std.specs.Prelude.{Ok, Err}
use Rattle.std.specs.Prelude.{Option, None, Some}
use Rattle.basics.specs.Tests.{all_below}
use Rattle.refusal.specs.declared.Refusal.{Refusal}
use Rattle.refusal.specs.Numbers.{numbered}
use Rattle.refusal.specs.Ladder.{Rung, lowest}
use Rattle.message.specs.Layout.{last_read, goes_down}
use Rattle.message.specs.declared.Entry.{Entry}
use Rattle.message.specs.declared.Message.{Message}
use Rattle.message.specs.declared.Message.TheVariants.{Done}
use Rattle.message.specs.Layout.{Unpacked}
use Rattle.register.specs.declared.Phase.TheVariants.{Reading, ReadingForWrite}
use Rattle.register.specs.Settings.{Settings, servers, is_server, is_client, is_honest, capacity}
use Rattle.register.specs.Server.{server_sends, sent_to}
use Rattle.register.specs.Client.{is_idle}
use Rattle.register.specs.Ladders.{read_ladder, write_ladder, serve_ladder}
use Rattle.register.specs.Ladders.{take_ladder, stop_ladder, lie_ladder}
use Rattle.register.specs.World.{World, Event, refuses, begins, serves, takes, stops, lies, response_of}

-- R d, W d entry, K k d, D d k, C d, and L k d with any bytes
pub data Step : Type 0 where
  R : ℕ → Step
  W : ℕ → Entry → Step
  K : ℕ → ℕ → Step
  D : ℕ → ℕ → Step
  C : ℕ → Step
  L : ℕ → ℕ → List ℕ → Step

-- how the steps judge entries and bytes: which entries are licence entries, and which bytes are which message
pub record Formats : Type 0 where
  pub is_licence : Entry → Bool
  pub unpack : List ℕ → Unpacked

-- no message waits; the oldest that does
unfoldable pub is_empty : List Message → Bool
is_empty [] = true
is_empty (message ∷ rest) = false

unfoldable pub oldest : List Message → Message
oldest [] = Done
oldest (message ∷ rest) = message

-- a channel has a number of free slots
unfoldable pub has_room : List Message → ℕ → Bool
has_room channel more = leb (length channel + more) capacity

module _ (settings : Settings) (judge : Formats) where
  -- every channel from client d that does not drop has room for more messages
  unfoldable pub room_up : World → ℕ → ℕ → Bool
  room_up world d more =
      all_below (λ i. not (is_honest settings (suc i)) || has_room (world.up d (suc i)) more) (servers settings)

  -- each channel from server k that does not drop has room for what follows a message of client d
  unfoldable pub room_down : World → ℕ → ℕ → Message → Bool
  room_down world k d message =
      all_below
      (λ i. world.stopped (suc i)
      || has_room (world.down (suc i) k) (length (sent_to (suc i) (server_sends (world.servers k) d message))))
      settings.clients

  -- the refusals of a step, lowest first: its tests on the world; a read's start counts 2 slots, a write's 3
  unfoldable pub ladder : World → Step → List Rung
  ladder world (R d) =
      read_ladder (not (is_client settings d)) (world.stopped d) (not (is_idle (world.clients d).phase))
      (leb last_read (world.clients d).reads.0) (not (room_up world d 2))
  ladder world (W d entry) =
      write_ladder (not (is_client settings d)) (world.stopped d) (not (is_idle (world.clients d).phase))
      (not (judge.is_licence entry)) (leb last_read (world.clients d).reads.0) (not (room_up world d 3))
  ladder world (K k d) =
      serve_ladder (not (is_client settings d && is_server settings k)) (settings.faulty k)
      (is_empty (world.up d k)) (not (room_down world k d (oldest (world.up d k))))
  ladder world (D d k) =
      take_ladder (not (is_client settings d && is_server settings k)) (world.stopped d)
      (is_empty (world.down d k))
      (not (room_up world d (length (response_of settings world d k (oldest (world.down d k))).sends)))
  ladder world (C d) = stop_ladder (not (is_client settings d)) (world.stopped d)
  ladder world (L k d bytes) =
      lie_ladder (not (is_client settings d && is_server settings k)) (not (settings.faulty k))
      (not (goes_down (judge.unpack bytes))) (not (world.stopped d || has_room (world.down d k) 1))

  -- the refusal of a step, if there is one
  unfoldable pub refusal_of : World → Step → Option Refusal
  unfolding ladder
  refusal_of world step = lowest (ladder world step)

  -- the event of a step that is not refused
  abbrev pub serves_oldest : ℕ → ℕ → List Message → Event
  serves_oldest k d [] = refuses (numbered 10)
  serves_oldest k d (message ∷ rest) = serves k d message rest

  abbrev pub takes_oldest : ℕ → ℕ → List Message → Event
  takes_oldest d k [] = refuses (numbered 10)
  takes_oldest d k (message ∷ rest) = takes d k message rest

  abbrev pub lies_with : ℕ → ℕ → Unpacked → Event
  lies_with k d (Ok message) = lies k d message
  lies_with k d (Err refusal) = refuses refusal

  unfoldable pub accepted : World → Step → Event
  accepted world (R d) = begins d Reading
  accepted world (W d entry) = begins d (ReadingForWrite entry)
  accepted world (K k d) = serves_oldest k d (world.up d k)
  accepted world (D d k) = takes_oldest d k (world.down d k)
  accepted world (C d) = stops d
  accepted world (L k d bytes) = lies_with k d (judge.unpack bytes)

  abbrev pub decided : Option Refusal → Event → Event
  decided None event = event
  decided (Some refusal) event = refuses refusal

  -- the event of a step
  unfoldable pub event_of : World → Step → Event
  unfolding refusal_of accepted
  event_of world step = decided (refusal_of world step) (accepted world step)
