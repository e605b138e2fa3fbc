-- A sound state stands for a well-formed world.
--
-- Each place of the world that there is in memory is well formed by its own test, or at setup where it is not
-- used; every other place is at setup by the view.
-- Assumes nothing.
use Rattle.basics.proofs.Prelude.{◌≡◌, refl, sym, ap, ◌∙◌, Bool, true, false, not, ◌&&◌, List, [], ℕ, ◌+◌}
use Rattle.basics.proofs.Prelude.{◌-◌, ◌≤◌, arith, eqb-true}
use mathlib.Core.Bool.{or-false}
use Rattle.register.proofs.Vocabulary.{contains, new_client, formats, new_server, most_servers, most_clients}
use Rattle.register.proofs.Vocabulary.{is_client, is_server, is_honest, new_world, FromClient, FromServer}
use Rattle.register.proofs.Vocabulary.{WellServer, WellClient, WellFormed}
use Rattle.basics.proofs.Cases.{both}
use Rattle.basics.proofs.UpTo.{and-false, at_place, back_one}
use Rattle.register.specs.Settings as register
use Rattle.register.specs.WellFormed.{WellChannel}
use Rattle.register.proofs.Reachable.{well_new}
use Rattle.channel.specs.Sound.{messages}
use Rattle.client.specs.Memory.{client_length}
use Rattle.state.specs.declared.Settings.{Settings}
use Rattle.state.specs.State.{settings_of, server_at, stopped_in, client_start, client_at}
use Rattle.state.specs.State.{up_index, down_index, view}
use Rattle.state.specs.Sound.{uses_up, uses_down, empty_or, is_link_sound}
use Rattle.state.proofs.Ranges.{Inside, at_link}
use Rattle.state.proofs.StoredParts.{part_get}
use Rattle.state.proofs.SoundFacts.{Facts, most_six}
use Rattle.state.proofs.SoundServer.{client_place_lem, no_client, well_server, unused_server}
use Rattle.state.proofs.SoundClient.{well_client, unused_client}
use Rattle.state.proofs.SoundChannels.{well_up, well_down, no_messages}

module _ (settings : Settings) (servers clients slots : List ℕ)
    (facts : Facts settings servers clients slots) where
  abbrev S : register.Settings
  S = settings_of settings

  six : settings.clients ≤ most_clients
  six = most_six settings servers clients slots facts

  new : WellFormed S formats new_world
  new = well_new S formats

  -- ---- servers

  server_well : (k : ℕ) → WellServer S ((view servers clients slots).servers k)
  unfolding view
  server_well k =
      at_place (WellServer S) most_servers k _ new_server
      (λ low high. let h = facts.server (k - 1) (omega arith) in
      well_server settings six (k - 1) (server_at servers (k - 1)) h)
      (λ e. new.server k)

  server_unused_lem : (k : ℕ) → is_honest S k ≡ false → (view servers clients slots).servers k ≡ new_server
  unfolding view
  server_unused_lem k h =
      at_place (λ x. x ≡ new_server) most_servers k _ new_server
      (λ low high. let well = facts.server (k - 1) (omega arith) in
      unused_server settings six (k - 1) (server_at servers (k - 1)) well
      (ap (is_honest S) (back_one k low) ∙ h))
      (λ e. refl)

  -- ---- clients

  client_well : (d : ℕ) → WellClient S formats ((view servers clients slots).clients d)
  unfolding view
  client_well d =
      at_place (WellClient S formats) most_clients d _ new_client
      (λ low high. let h = facts.client (d - 1) (omega arith) in
      well_client settings (d - 1) (client_at clients (d - 1)) h
      (λ x less. rw (part_get clients (client_start (d - 1)) client_length x less)
      (facts.small (client_start (d - 1) + x) (omega arith))))
      (λ e. new.client d)

  client_unused_lem : (d : ℕ) → is_client S d ≡ false → (view servers clients slots).clients d ≡ new_client
  unfolding view
  client_unused_lem d h =
      at_place (λ x. x ≡ new_client) most_clients d _ new_client
      (λ low high. let well = facts.client (d - 1) (omega arith) in
      unused_client settings (d - 1) (client_at clients (d - 1)) well
      (sym (client_place_lem settings (d - 1)) ∙ ap (is_client S) (back_one d low) ∙ h))
      (λ e. refl)

  -- ---- channels, between client d and server k

  module _ (d k : ℕ) where
    abbrev up : ℕ
    up = up_index (d - 1) (k - 1)

    abbrev down : ℕ
    down = down_index (d - 1) (k - 1)

    up_well : WellChannel FromClient ((view servers clients slots).up d k)
    unfolding view
    up_well =
        at_link (WellChannel FromClient) d k (messages slots up) []
        (λ i. well_up slots facts.channels up (omega arith) (omega arith)) (λ e. new.up d k)

    down_well : WellChannel FromServer ((view servers clients slots).down d k)
    unfolding view
    down_well =
        at_link (WellChannel FromServer) d k (messages slots down) []
        (λ i. well_down slots facts.channels down (omega arith) (omega arith)) (λ e. new.down d k)

    abbrev up_used : Bool
    up_used = uses_up settings (d - 1) (k - 1)

    abbrev down_used : Bool
    down_used = uses_down settings (stopped_in clients) (d - 1) (k - 1)

    link : Inside d k → (empty_or up_used slots up ≡ true) × (empty_or down_used slots down ≡ true)
    unfolding is_link_sound
    link i =
        both (empty_or up_used slots up) (empty_or down_used slots down)
        (facts.link (d - 1) (k - 1) (omega arith) (omega arith))

    -- a channel that is not used is empty
    none_at : (used : Bool) (x : ℕ) → used ≡ false → empty_or used slots x ≡ true → messages slots x ≡ []
    none_at used x h e = no_messages slots x (eqb-true _ 0 (rw (h, or-false) at e))

    up_unused_lem : is_client S d && is_honest S k ≡ false → (view servers clients slots).up d k ≡ []
    unfolding view
    up_unused_lem h =
        at_link (λ x. x ≡ []) d k (messages slots up) []
        (λ i. none_at up_used up
        (rw (← (client_place_lem settings (d - 1)), back_one d i.low, back_one k i.first) h) (link i).0)
        (λ e. refl)

    down_none : (is_client S d && is_server S k) && not (contains (stopped_in clients) d) ≡ false
        → (view servers clients slots).down d k ≡ []
    unfolding view
    down_none h =
        at_link (λ x. x ≡ []) d k (messages slots down) []
        (λ i. none_at down_used down
        (rw (← (client_place_lem settings (d - 1)), back_one d i.low, back_one k i.first) h) (link i).1)
        (λ e. refl)

  pub well_view : WellFormed S formats (view servers clients slots)
  unfolding view
  well_view =
      record {
        server = server_well;
        client = client_well;
        up = up_well;
        down = down_well;
        server_unused = server_unused_lem;
        client_unused = client_unused_lem;
        stopped_unused = no_client settings (stopped_in clients) facts.stopped;
        up_unused = up_unused_lem;
        down_unused = λ d k h. down_none d k (rw h);
        down_drops = λ d k h. down_none d k (rw h (and-false (is_client S d && is_server S k) false refl));
      }
