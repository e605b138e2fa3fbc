-- The tests for room on the stored slots are the model's, and what they say of each channel.
--
-- The counts are the lengths of the world's channels; a server among 1 to n that is not honest is faulty.
-- In order: what is known of a stored world; room up; room down.
-- Assumes nothing.
use Rattle.basics.proofs.Prelude.{◌≡◌, refl, sym, ap, ◌∙◌, Bool, true, false, not, ◌||◌, List, [], ◌∷◌}
use Rattle.basics.proofs.Prelude.{length, ℕ, zero, suc, ◌+◌, ◌-◌, ◌≤◌, ◌<◌, arith, eqb, leb, le-leb}
use mathlib.Core.Bool.{not-not}
use lib.Dec.{eqb-suc-zero}
use Rattle.register.proofs.Vocabulary.{all_below, contains, Message, Sent, server_sends, sent_to, Accepted}
use Rattle.register.proofs.Vocabulary.{is_server, is_client, is_honest, capacity, most_servers, is_empty, has_room}
use Rattle.register.proofs.Vocabulary.{World, formats, FromClient, WellFormed}
use Rattle.basics.proofs.Cases.{by_test, both_of, true_or_false}
use Rattle.basics.proofs.UpTo.{in_range_lem}
use Rattle.register.specs.Steps as model
use Rattle.register.proofs.Bounds.{bounds, client_small, server_of, server_range, honest_of}
use Rattle.register.proofs.Rooms.{room_up_lem, room_down_lem}
use Rattle.register.proofs.WellServer.{well_sends, none_there}
use Rattle.channel.specs.Memory.{count_at}
use Rattle.state.specs.declared.Settings.{Settings}
use Rattle.state.specs.State.{settings_of, up_index, down_index, store_stopped, store_slots}
use Rattle.state.proofs.Channels.{Short, Inside, store_slots_lem, up_count, down_count}
use Rattle.state.proofs.StoredServer.{stopped_is}
use Rattle.steps.specs.InMemory.{room_up, room_down}
use Rattle.steps.proofs.SendingUp.{Room}

-- an empty channel counts no message
pub empty_is : (l : List Message) → eqb (length l) 0 ≡ is_empty l
unfolding is_empty
empty_is [] = refl
empty_is (m ∷ ms) = eqb-suc-zero (length ms)

pub below_same : (p q : ℕ → Bool) (n : ℕ) → ((i : ℕ) → i < n → p i ≡ q i) → all_below p n ≡ all_below q n
unfolding all_below
below_same p q zero h = refl
below_same p q (suc n) h = rw (below_same p q n (λ i less. h i (omega arith)), h n (omega arith))

-- a well-formed world under settings that are accepted
pub record WellStored (settings : Settings) (world : World) : Type 0 where
  pub accepted : Accepted (settings_of settings)
  pub well : WellFormed (settings_of settings) formats world

module _ (settings : Settings) (world : World) (good : WellStored settings world) where
  -- ---- a stored world

  pub few_servers_lem : settings.n ≤ most_servers
  unfolding settings_of
  few_servers_lem = (bounds (settings_of settings) good.accepted).most

  pub up_short : Short world.up
  up_short d k = (good.well.up d k).few

  pub down_short : Short world.down
  down_short d k = (good.well.down d k).few

  pub stopped_same : (d : ℕ) → contains (store_stopped world) d ≡ world.stopped d
  stopped_same d = ap (λ (f : ℕ → Bool). f d)
      (stopped_is (settings_of settings) good.accepted formats world good.well)

  module _ (d k : ℕ) (client : is_client (settings_of settings) d ≡ true)
      (server : is_server (settings_of settings) k ≡ true) where
    pub inside : Inside d k
    unfolding settings_of
    inside =
        let range = client_small (settings_of settings) good.accepted d client in
        let named = server_range (settings_of settings) k server in
        let few = few_servers_lem in
        record { low = range.0; high = range.1; first = named.0; last = omega arith }

    pub count_up : count_at (store_slots world) (up_index (d - 1) (k - 1)) ≡ length (world.up d k)
    count_up = rw (store_slots_lem world) (up_count world.up world.down d k inside up_short down_short)

    pub count_down : count_at (store_slots world) (down_index (d - 1) (k - 1)) ≡ length (world.down d k)
    count_down = rw (store_slots_lem world) (down_count world.up world.down d k inside up_short down_short)

  -- ---- room up

  module _ (d : ℕ) (client : is_client (settings_of settings) d ≡ true) where
    one_up : (more i : ℕ) → i < settings.n → contains settings.faulty (suc i)
        || leb (count_at (store_slots world) (up_index (d - 1) i) + more) capacity
        ≡ not (is_honest (settings_of settings) (suc i)) || has_room (world.up d (suc i)) more
    unfolding settings_of is_honest has_room
    one_up more i less =
        let back : suc i - 1 ≡ i = omega arith in
        let server : is_server (settings_of settings) (suc i) ≡ true = server_of (settings_of settings) (suc i)
        (omega arith) less in
        let count : count_at (store_slots world) (up_index (d - 1) i) ≡ length (world.up d (suc i)) =
        rw back at (count_up d (suc i) client server) in
        rw (count, server, not-not (contains settings.faulty (suc i)))

    pub room_up_is : (more : ℕ)
        → room_up settings (store_slots world) (d - 1) more
        ≡ model.room_up (settings_of settings) formats world d more
    unfolding room_up model.room_up settings_of
    room_up_is more = below_same _ _ settings.n (one_up more)

    -- room for n messages is room for fewer on each channel
    pub room_of : (more n : ℕ) → more ≤ n → model.room_up (settings_of settings) formats world d n ≡ true
        → Room settings.faulty d settings.n more world.up
    unfolding settings_of
    room_of more n less room k h f =
        let r = in_range_lem settings.n k h in
        let honest = honest_of (settings_of settings) k (server_of (settings_of settings) k r.0 r.1) f in
        let fits = room_up_lem (settings_of settings) formats world d n room k honest in
        omega arith

  -- ---- room down

  module _ (k : ℕ) (server : is_server (settings_of settings) k ≡ true) where
    one_down : (xs : List Sent) (i : ℕ) → i < settings.clients → contains (store_stopped world) (suc i)
        || leb (count_at (store_slots world) (down_index i (k - 1)) + length (sent_to (suc i) xs)) capacity
        ≡ world.stopped (suc i) || has_room (world.down (suc i) k) (length (sent_to (suc i) xs))
    unfolding settings_of is_client has_room
    one_down xs i less =
        let back : suc i - 1 ≡ i = omega arith in
        let client : is_client (settings_of settings) (suc i) ≡ true =
        both_of (leb 1 (suc i)) (leb (suc i) settings.clients) (le-leb 1 (suc i) (omega arith))
        (le-leb (suc i) settings.clients less) in
        let count : count_at (store_slots world) (down_index i (k - 1)) ≡ length (world.down (suc i) k) =
        rw back at (count_down (suc i) k client server) in
        rw (count, stopped_same (suc i))

    pub room_down_is : (d : ℕ) (message : Message)
        → room_down settings (store_stopped world) (store_slots world) (k - 1)
        (server_sends (world.servers k) d message)
        ≡ model.room_down (settings_of settings) formats world k d message
    unfolding room_down model.room_down settings_of
    room_down_is d message = below_same _ _ settings.clients
        (one_down (server_sends (world.servers k) d message))

    -- room on each channel for what is sent there: nothing is sent to what is no client
    pub down_room : (d : ℕ) (message : Message) → is_client (settings_of settings) d ≡ true → FromClient message
        → model.room_down (settings_of settings) formats world k d message ≡ true → (other : ℕ)
        → contains (store_stopped world) other ≡ false → length (world.down other k)
        + length (sent_to other (server_sends (world.servers k) d message)) ≤ capacity
    down_room d message client kind room other works =
        by_test (is_client (settings_of settings) other)
        (λ yes. room_down_lem (settings_of settings) formats world k d message room other yes
        (sym (stopped_same other) ∙ works))
        (λ no. let none : world.down other k ≡ [] = good.well.down_unused other k (rw no refl) in
        let unsent : sent_to other (server_sends (world.servers k) d message) ≡ [] =
        none_there other (server_sends (world.servers k) d message)
        (λ x h to. true_or_false (is_client (settings_of settings) other)
        (ap (is_client (settings_of settings)) (sym to)
        ∙ (well_sends (settings_of settings) (world.servers k) d client
        (good.well.server k) message kind x h).client) no) in
        rw (none, unsent) (omega arith))
