-- What an accepted event was checked for.
--
-- A step that no rung of its ladder refuses has passed the tests of all rungs; `Enabled` says what that is
-- for each event, and `enabled` that every event of a step has it. All later proofs go by cases on events and
-- use this, and never look at the ladders.
-- Assumes nothing.
use Rattle.basics.proofs.Prelude.{◌≡◌, refl, true, false, ◌||◌, List, [], ◌∷◌, None, length, ℕ, ◌≤◌, ◌<◌}
use Rattle.basics.proofs.Prelude.{le_refl, arith, leb-false, not-false}
use Rattle.basics.proofs.Cases.{by_option, both}
use Rattle.refusal.proofs.Ladders.{none_applies}
use Rattle.register.proofs.Vocabulary.{last_read, Settings, is_server, is_client, is_honest, is_idle}
use Rattle.register.proofs.Vocabulary.{World, Event, refuses, begins, serves, takes, stops, lies, Ok, Err}
use Rattle.register.proofs.Vocabulary.{response_of, Step, R, W, K, D, C, L, Formats, oldest, has_room}
use Rattle.register.proofs.Vocabulary.{room_up, room_down, ladder, refusal_of, accepted, event_of}
use Rattle.message.specs.Layout.{goes_down}
use Rattle.message.specs.Layout.{Unpacked}
use Rattle.register.specs.Steps.{serves_oldest, takes_oldest, lies_with}
use Rattle.register.proofs.Vocabulary.{Message, Phase, Idle, Reading, ReadingForWrite, Storing}
use Rattle.register.proofs.Bounds.{honest_of}

-- the slots that a start keeps free on every channel to an honest server: a read's DONE, a write's
-- WRITE_INFO too
abbrev pub slots_for : Phase → ℕ
slots_for Idle = 1
slots_for Reading = 2
slots_for (ReadingForWrite entry) = 3
slots_for (Storing entry count) = 1

pub some_slot : (phase : Phase) → 1 ≤ slots_for phase
some_slot Idle = le_refl _
some_slot Reading = omega arith
some_slot (ReadingForWrite entry) = omega arith
some_slot (Storing entry count) = le_refl _

-- the phase of a start, with a licence entry
abbrev pub Starts : Formats → Phase → Type 0
Starts judge Idle = ⊥
Starts judge Reading = Unit {0}
Starts judge (ReadingForWrite entry) = judge.is_licence entry ≡ true
Starts judge (Storing entry count) = ⊥

module _ (settings : Settings) (judge : Formats) (world : World) where
  abbrev pub Enabled : Event → Type 0
  Enabled (refuses refusal) = Unit {0}
  Enabled (begins d new) = record {
    client : is_client settings d ≡ true;
    works : world.stopped d ≡ false;
    idle : is_idle (world.clients d).phase ≡ true;
    below : (world.clients d).reads.0 < last_read;
    phase : Starts judge new;
    room : room_up settings judge world d (slots_for new) ≡ true;
  }
  Enabled (serves k d message rest) = record {
    client : is_client settings d ≡ true;
    honest : is_honest settings k ≡ true;
    channel : world.up d k ≡ message ∷ rest;
    room : room_down settings judge world k d message ≡ true;
  }
  Enabled (takes d k message rest) = record {
    client : is_client settings d ≡ true;
    server : is_server settings k ≡ true;
    works : world.stopped d ≡ false;
    channel : world.down d k ≡ message ∷ rest;
    room : room_up settings judge world d (length (response_of settings world d k message).sends) ≡ true;
  }
  Enabled (stops d) = record { client : is_client settings d ≡ true; works : world.stopped d ≡ false }
  Enabled (lies k d message) = record {
    client : is_client settings d ≡ true;
    server : is_server settings k ≡ true;
    faulty : settings.faulty k ≡ true;
    reply : goes_down (Ok message) ≡ true;
    bytes : List ℕ;
    message : judge.unpack bytes ≡ Ok message;
    room : world.stopped d || has_room (world.down d k) 1 ≡ true;
  }

  serves_enabled : (k d : ℕ) (channel : List Message) → world.up d k ≡ channel → is_client settings d ≡ true
      → is_honest settings k ≡ true → room_down settings judge world k d (oldest channel) ≡ true
      → Enabled (serves_oldest settings judge k d channel)
  unfolding oldest
  serves_enabled k d [] is client honest room = tt
  serves_enabled k d (message ∷ rest) is client honest room =
      record { client = client; honest = honest; channel = is; room = room }

  takes_enabled : (d k : ℕ) (channel : List Message) → world.down d k ≡ channel → is_client settings d ≡ true
      → is_server settings k ≡ true → world.stopped d ≡ false
      → room_up settings judge world d (length (response_of settings world d k (oldest channel)).sends) ≡ true
      → Enabled (takes_oldest settings judge d k channel)
  unfolding oldest
  takes_enabled d k [] is client there works room = tt
  takes_enabled d k (message ∷ rest) is client there works room =
      record { client = client; server = there; works = works; channel = is; room = room }

  lies_enabled : (k d : ℕ) (bytes : List ℕ) (unpacked : Unpacked) → judge.unpack bytes ≡ unpacked
      → is_client settings d ≡ true → is_server settings k ≡ true
      → settings.faulty k ≡ true → goes_down unpacked ≡ true
      → world.stopped d || has_room (world.down d k) 1 ≡ true
      → Enabled (lies_with settings judge k d unpacked)
  lies_enabled k d bytes (Err refusal) is client there faulty reply room = tt
  lies_enabled k d bytes (Ok message) is client there faulty reply room =
      record {
        client = client;
        server = there;
        faulty = faulty;
        reply = reply;
        bytes = bytes;
        message = is;
        room
            = room;
      }

  accepted_enabled : (step : Step) → refusal_of settings judge world step ≡ None
      → Enabled (accepted settings judge world step)
  unfolding refusal_of ladder accepted
  accepted_enabled (R d) h =
      let no = none_applies (ladder settings judge world (R d)) h in
      record {
        client = not-false _ no.0;
        works = no.1.0;
        idle = not-false _ no.1.1.0;
        below = leb-false _ _ no.1.1.1.0;
        phase = tt;
        room = not-false _ no.1.1.1.1.0;
      }
  accepted_enabled (W d entry) h =
      let no = none_applies (ladder settings judge world (W d entry)) h in
      record {
        client = not-false _ no.0;
        works = no.1.0;
        idle = not-false _ no.1.1.0;
        below = leb-false _ _ no.1.1.1.1.0;
        phase = not-false _ no.1.1.1.0;
        room = not-false _ no.1.1.1.1.1.0;
      }
  accepted_enabled (K k d) h =
      let no = none_applies (ladder settings judge world (K k d)) h in
      let there = both (is_client settings d) (is_server settings k) (not-false _ no.0) in
      serves_enabled k d (world.up d k) refl there.0 (honest_of settings k there.1 no.1.0)
      (not-false _ no.1.1.1.0)
  accepted_enabled (D d k) h =
      let no = none_applies (ladder settings judge world (D d k)) h in
      let there = both (is_client settings d) (is_server settings k) (not-false _ no.0) in
      takes_enabled d k (world.down d k) refl there.0 there.1 no.1.0 (not-false _ no.1.1.1.0)
  accepted_enabled (C d) h =
      let no = none_applies (ladder settings judge world (C d)) h in
      record { client = not-false _ no.0; works = no.1.0 }
  accepted_enabled (L k d bytes) h =
      let no = none_applies (ladder settings judge world (L k d bytes)) h in
      let there = both (is_client settings d) (is_server settings k) (not-false _ no.0) in
      lies_enabled k d bytes (judge.unpack bytes) refl there.0 there.1 (not-false _ no.1.0)
      (not-false _ no.1.1.0)
      (not-false _ no.1.1.1.0)

  pub enabled : (step : Step) → Enabled (event_of settings judge world step)
  unfolding event_of
  enabled step =
      by_option (refusal_of settings judge world step) (λ e. rw e (accepted_enabled step e)) (λ r e. rw e tt)
