-- A well-formed world is found again in what is stored of it: `view` undoes storing.
--
-- Each part is: servers and stopped clients (`StoredServer`), clients (`StoredClient`), channels
-- (`StoredSlots`). What has no place was never used, and has its value at setup.
-- Assumes nothing.
use Rattle.register.proofs.Vocabulary.{contains, is_up_to, Message, new_client, formats, new_server, most_servers}
use Rattle.register.proofs.Vocabulary.{most_clients, Accepted, is_server, is_client, is_honest, World, WellFormed}
use Rattle.basics.proofs.Prelude.{◌≡◌, sym, ap, ◌∙◌, Bool, false, cond, ◌&&◌, List, [], ℕ, ◌-◌, ◌≤◌, ◌<◌}
use Rattle.basics.proofs.Prelude.{arith}
use Rattle.basics.proofs.Cases.{by_either, one_fails, true_or_false}
use Rattle.basics.proofs.UpTo.{and-false, never, of_range, at_place}
use Rattle.register.specs.Settings as model
use Rattle.register.proofs.Bounds.{bounds, honest_server, server_range}
use Rattle.channel.specs.Memory.{channels}
use Rattle.channel.specs.Sound.{messages}
use Rattle.server.specs.Memory as server
use Rattle.client.specs.Memory as client
use Rattle.client.proofs.Heads.{counter_fits}
use Rattle.client.proofs.Memory.{view_store}
use Rattle.state.specs.declared.Settings.{Settings}
use Rattle.state.specs.State.{settings_of, stopped_in, client_at, up_index, down_index, channel_of}
use Rattle.state.specs.State.{store_servers, store_clients, store_slots, view}
use Rattle.state.proofs.Ranges.{Inside, at_link}
use Rattle.state.proofs.Channels.{up_entry, down_entry, up_inside, down_inside}
use Rattle.state.proofs.StoredClient.{Placed, held_client, sound_phase}
use Rattle.state.proofs.StoredParts.{server_at_lem, client_at_lem, stopped_at_lem}
use Rattle.state.proofs.StoredServer.{no_client, stopped_is, server_is}
use Rattle.state.proofs.StoredSlots.{channel_found}

module _ (settings : Settings) (accepted : Accepted (settings_of settings)) (world : World)
    (well : WellFormed (settings_of settings) formats world) where
  abbrev S : model.Settings
  S = settings_of settings

  -- ---- servers and clients

  pub no_server : (k : ℕ) → is_up_to most_servers k ≡ false → is_server S k ≡ false
  unfolding settings_of
  no_server k h =
      never (is_server S k)
      (λ e. let r = server_range S k e in
      let few = (bounds S accepted).most in
      true_or_false (is_up_to most_servers k) (of_range most_servers k r.0 (omega arith)) h)

  pub placed : (d : ℕ) → Placed (world.clients d)
  placed d =
      let known = well.client d in
      record {
        few = λ k. (known.sets k).few;
        noted = λ k h. known.noted_unused k (rw (no_server k h));
        sets = λ k h. known.sets_unused k (rw (no_server k h));
        acks = λ k h. known.acks_unused k (no_server k h);
      }

  pub client_again : (d : ℕ) → client.view (client.store (world.clients d)) ≡ world.clients d
  client_again d =
      let known = well.client d in
      let small = known.reads in
      let phase = (world.clients d).phase in
      view_store (world.clients d) (counter_fits phase (sound_phase phase known.phase))
      (omega arith) (held_client (world.clients d) (placed d))

  -- what the memory of client d shows
  pub client_is : (d : ℕ) → 1 ≤ d → d ≤ most_clients
      → client.view (client_at (store_clients world) (d - 1)) ≡ world.clients d
  client_is d low high = ap client.view (client_at_lem world d low high) ∙ client_again d

  no_honest : (k : ℕ) → is_server S k ≡ false → is_honest S k ≡ false
  no_honest k h = never (is_honest S k) (λ e. true_or_false (is_server S k) (honest_server S k e) h)

  abbrev shown : World
  shown = view (store_servers world) (store_clients world) (store_slots world)

  servers_found : (k : ℕ) → shown.servers k ≡ world.servers k
  unfolding view
  servers_found k =
      at_place (λ x. x ≡ world.servers k) most_servers k _ new_server
      (λ low high. ap server.view (server_at_lem world k low high)
      ∙ server_is S accepted (world.servers k) (well.server k))
      (λ e. sym (well.server_unused k (no_honest k (no_server k e))))

  clients_found : (d : ℕ) → shown.clients d ≡ world.clients d
  unfolding view
  clients_found d =
      at_place (λ x. x ≡ world.clients d) most_clients d _ new_client (client_is d)
      (λ e. sym (well.client_unused d (no_client S accepted d e)))

  -- ---- channels

  module _ (d k : ℕ) where
    -- what is found at the index of a channel, and where there is none
    link_found : (c : ℕ) (l : List Message) → (Inside d k → (c < channels) × (channel_of world c ≡ l))
        → (is_up_to most_clients d && is_up_to most_servers k ≡ false → l ≡ [])
        → cond (is_up_to most_clients d && is_up_to most_servers k) (messages (store_slots world) c) [] ≡ l
    link_found c l there none =
        at_link (λ x. x ≡ l) d k (messages (store_slots world) c) []
        (λ i. let p = there i in channel_found S formats world well c p.0 ∙ p.1)
        (λ e. sym (none e))

    unused : (is : ℕ → Bool) → (is_server S k ≡ false → is k ≡ false)
        → is_up_to most_clients d && is_up_to most_servers k ≡ false → is_client S d && is k ≡ false
    unused is h e =
        by_either (one_fails (is_up_to most_clients d) (is_up_to most_servers k) e)
        (λ a. rw (no_client S accepted d a))
        (λ a. and-false (is_client S d) (is k) (h (no_server k a)))

    up_found : shown.up d k ≡ world.up d k
    unfolding view channel_of
    up_found =
        link_found (up_index (d - 1) (k - 1)) (world.up d k)
        (λ i. (up_inside world.up world.down d k i, up_entry world.up world.down d k i))
        (λ e. well.up_unused d k (unused (is_honest S) (no_honest k) e))

    down_found : shown.down d k ≡ world.down d k
    unfolding view channel_of
    down_found =
        link_found (down_index (d - 1) (k - 1)) (world.down d k)
        (λ i. (down_inside world.up world.down d k i, down_entry world.up world.down d k i))
        (λ e. well.down_unused d k (unused (is_server S) (λ h. h) e))

  stopped_found : contains (stopped_in (store_clients world)) ≡ world.stopped
  stopped_found = ap contains (stopped_at_lem world) ∙ stopped_is S accepted formats world well

  pub view_stored : view (store_servers world) (store_clients world) (store_slots world) ≡ world
  unfolding view
  view_stored =
      λ i. record {
        servers = λ k. servers_found k i;
        clients = λ d. clients_found d i;
        stopped = stopped_found i;
        up = λ d k. up_found d k i;
        down = λ d k. down_found d k i;
      }
