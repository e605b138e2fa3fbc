-- The stored form of a well-formed world is a sound state.
--
-- Every place is stored from a well-formed part, or from what stands there at setup, and so passes its test.
-- Every number is a field in its width, so it has 64 bits.
-- Assumes nothing.
use Rattle.basics.proofs.Prelude.{◌≡◌, ◌∙◌, Bool, true, false, ◌&&◌, List, [], length, get_or, ℕ, zero}
use Rattle.basics.proofs.Prelude.{suc, ◌^◌, ◌≤◌, ◌<◌, arith, ltb, le-ltb, not-false}
use mathlib.Core.Bool.{or-true}
use Rattle.register.proofs.Vocabulary.{tabled, Message, entry_of, formats, most_servers, most_clients, is_client}
use Rattle.register.proofs.Vocabulary.{is_server, are_servers_in_range, World, WellPhase, WellFormed}
use Rattle.register.specs.declared.Phase.{Phase}
use Rattle.register.specs.declared.Phase.TheVariants.{Idle, Reading, ReadingForWrite, Storing}
use Rattle.basics.proofs.Cases.{by_test, both_of}
use Rattle.basics.proofs.Members.{Every}
use Rattle.basics.proofs.BitSets.{set_lt}
use Rattle.basics.proofs.UpTo.{less_one}
use Rattle.licence.proofs.Entries.{is_licence_small}
use Rattle.register.specs.Settings as register
use Rattle.register.proofs.Bounds.{Bounds, bounds}
use Rattle.channel.specs.Memory.{count_at}
use Rattle.replies.specs.Replies.{store_replies}
use Rattle.client.specs.declared.Client.{Client as Loaded}
use Rattle.client.specs.Memory as client
use Rattle.client.specs.Memory.{code_of, counter_in}
use Rattle.client.specs.Sound.{is_sound_memory}
use Rattle.client.specs.State.{store_client}
use Rattle.client.proofs.Facts.{ClientSound, client_sound, of_both}
use Rattle.client.proofs.Memory.{sound_whole}
use Rattle.state.specs.declared.Settings.{Settings}
use Rattle.state.specs.State.{settings_of, server_at, clients_length, client_at, up_index, down_index}
use Rattle.state.specs.State.{store_servers, store_stopped, store_clients, store_slots}
use Rattle.state.specs.Sound.{server_test, is_client_sound, uses_up, uses_down, empty_or}
use Rattle.state.specs.Sound.{is_link_sound, is_sound}
use Rattle.state.proofs.Channels.{Short, slots_of, store_slots_lem, up_count, down_count}
use Rattle.state.proofs.Orders.{place_every, every_join}
use Rattle.state.proofs.Ranges.{Inside}
use Rattle.state.proofs.SoundFacts.{Allowed, Facts, sound_of}
use Rattle.state.proofs.SoundServer.{set_fits, client_place_lem, stored_server}
use Rattle.state.proofs.StoredClient.{sound_phase}
use Rattle.state.proofs.StoredParts.{server_there, client_there, servers_length_lem, clients_length_lem}
use Rattle.state.proofs.StoredReplies.{stored_sound, stored_small}
use Rattle.state.proofs.StoredServer.{stopped_is}
use Rattle.state.proofs.StoredSlots.{slots_long_lem, slots_sound}

-- the numbers of a phase have 64 bits
head_small : (phase : Phase) → WellPhase formats phase
    → (code_of phase < 2 ^ 64) × ((entry_of phase).0 < 2 ^ 64) × (counter_in phase < 2 ^ 64)
unfolding code_of entry_of counter_in
head_small Idle h = (omega arith, omega arith, omega arith)
head_small Reading h = (omega arith, omega arith, omega arith)
head_small (ReadingForWrite entry) h =
    let small = is_licence_small entry.0 h in (omega arith, omega arith, omega arith)
head_small (Storing entry counter) h =
    let small = is_licence_small entry.0 h.0 in
    let few = h.1 in
    (omega arith, omega arith, omega arith)

module _ (settings : Settings) (allowed : Allowed settings) (world : World)
    (well : WellFormed (settings_of settings) formats world) where
  abbrev S : register.Settings
  S = settings_of settings

  bound : Bounds S
  bound = bounds S allowed.accepted

  six : settings.clients ≤ most_clients
  unfolding settings_of
  six = bound.six_clients

  ranged : are_servers_in_range settings.n settings.f ≡ true
  unfolding settings_of
  ranged = bound.range

  -- ---- the parts

  stopped_small : store_stopped world < 2 ^ settings.clients
  unfolding store_stopped
  stopped_small =
      set_fits world.stopped settings.clients most_clients six
      (λ i more. well.stopped_unused (suc i) (client_place_lem settings i ∙ le-ltb i settings.clients more))

  server_sound : (j : ℕ) → j < most_servers → server_test settings (server_at (store_servers world) j) j 0 ≡ true
  unfolding store_servers
  server_sound j less =
      rw (server_there world.servers j less)
      (stored_server settings j (world.servers (suc j)) six (well.server (suc j))
      (well.server_unused (suc j)))

  memory_sound : (i : ℕ)
      → is_sound_memory settings.n settings.f (client.store (world.clients (suc i))) ≡ true
  memory_sound i =
      let own = world.clients (suc i) in
      let loaded : Loaded = store_client 1 settings.n settings.f own in
      let own_sound : ClientSound loaded = record {
        low = omega arith;
        high = omega arith;
        range = ranged;
        reads = (well.client (suc i)).reads;
        phase = sound_phase own.phase (well.client (suc i)).phase;
      } in
      sound_whole loaded (store_replies own)
      (of_both loaded (store_replies own) (client_sound loaded own_sound)
      (stored_sound settings own (well.client (suc i))))

  place_sound : (i : ℕ) → is_client_sound settings i (client.store (world.clients (suc i))) ≡ true
  unfolding is_client_sound code_of
  place_sound i =
      both_of (is_sound_memory settings.n settings.f (client.store (world.clients (suc i)))) _
      (memory_sound i)
      (by_test (ltb i settings.clients) (λ e. rw e)
      (λ e. rw (e, well.client_unused (suc i) (client_place_lem settings i ∙ e))))

  clients_sound : (i : ℕ) → i < most_clients → is_client_sound settings i (client_at (store_clients world) i)
      ≡ true
  unfolding store_clients
  clients_sound i less = rw (client_there (store_stopped world) world.clients i less) (place_sound i)

  -- ---- 64 bits

  abbrev Small : ℕ → Type 0
  Small y = y < 2 ^ 64

  every_row : (i : ℕ) → Every (λ y. y < 2 ^ 64) (client.store (world.clients (suc i)))
  every_row i =
      let own = well.client (suc i) in
      let small = own.reads in
      let h = head_small (world.clients (suc i)).phase own.phase in
      (omega arith, (h.0, (h.1, (h.2, stored_small settings (world.clients (suc i)) own))))

  every_word : (n : ℕ) → Every (λ y. y < 2 ^ 64) (tabled (λ i. client.store (world.clients (suc i))) n)
  unfolding tabled
  every_word zero = tt
  every_word (suc n) =
      every_join Small 0 (tabled (λ i. client.store (world.clients (suc i))) n) _ (every_word n)
      (every_row n)

  all_small : (i : ℕ) → i < clients_length → get_or (store_clients world) i 0 < 2 ^ 64
  unfolding store_clients store_stopped
  all_small i less =
      let few = set_lt world.stopped most_clients in
      place_every Small 0 (store_clients world) i (omega arith, every_word most_clients)
      (rw (clients_length_lem world) less)

  -- ---- the slots

  module _ (i j : ℕ) (client : i < most_clients) (server : j < most_servers) where
    inside : Inside (suc i) (suc j)
    inside = record { low = omega arith; high = client; first = omega arith; last = server }

    short_up : Short world.up
    short_up d k = (well.up d k).few

    short_down : Short world.down
    short_down d k = (well.down d k).few

    -- channel c, which holds l, is empty or used
    channel_sound : (used : Bool) (c place : ℕ) (l : List Message) → place ≡ c
        → count_at (slots_of world.up world.down) place ≡ length l → (used ≡ false → l ≡ [])
        → empty_or used (store_slots world) c ≡ true
    channel_sound used c place l at count none =
        by_test used (λ e. rw (e, or-true _)) (λ e. rw (← at, store_slots_lem world, count, none e))

    up_sound : empty_or (uses_up settings i j) (store_slots world) (up_index i j) ≡ true
    up_sound =
        channel_sound _ (up_index i j) _ (world.up (suc i) (suc j)) (rw (less_one i, less_one j))
        (up_count world.up world.down (suc i) (suc j) inside short_up short_down)
        (λ h. well.up_unused (suc i) (suc j) (rw (client_place_lem settings i) h))

    down_sound : empty_or (uses_down settings (store_stopped world) i j) (store_slots world) (down_index i j)
        ≡ true
    down_sound =
        channel_sound _ (down_index i j) _ (world.down (suc i) (suc j)) (rw (less_one i, less_one j))
        (down_count world.up world.down (suc i) (suc j) inside short_up short_down)
        (λ h. by_test (is_client S (suc i) && is_server S (suc j))
        (λ e. well.down_drops (suc i) (suc j)
        (not-false _
        (rw (← (client_place_lem settings i), e, stopped_is S allowed.accepted formats world well) at h)))
        (well.down_unused (suc i) (suc j)))

  pub stored_facts : Facts settings (store_servers world) (store_clients world) (store_slots world)
  unfolding is_link_sound store_clients
  stored_facts =
      record {
        allowed = allowed;
        servers_long = servers_length_lem world;
        clients_long = clients_length_lem world;
        slots_long = slots_long_lem S formats world well;
        stopped = stopped_small;
        server = server_sound;
        small = all_small;
        client = clients_sound;
        channels = slots_sound S formats world well;
        link = λ i j a e.
            both_of (empty_or (uses_up settings i j) (store_slots world) (up_index i j)) _ (up_sound i j a e)
            (down_sound i j a e);
      }

  pub stored_state : is_sound settings (store_servers world) (store_clients world) (store_slots world) ≡ true
  stored_state = sound_of settings (store_servers world) (store_clients world) (store_slots world) stored_facts
