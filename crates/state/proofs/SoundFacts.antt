-- The tests of soundness as facts, and back.
--
-- Why: a list of tests passes where each does (`each`, `all_of`), and a test of all places below n where it
-- passes at each place (`below`, `below_of`).
-- Assumes nothing.
use Rattle.basics.proofs.Prelude.{◌≡◌, sym, ap, ◌∙◌, Bool, true, List, length, get_or, ℕ, ◌^◌, ◌≤◌, ◌<◌, arith}
use Rattle.basics.proofs.Prelude.{ltb, eq-eqb, ltb-true, lt-ltb}
use Rattle.register.proofs.Vocabulary.{all_below, most_servers, most_clients, Accepted, setup_refusal}
use Rattle.basics.proofs.Cases.{both, both_of}
use Rattle.basics.proofs.Tests.{each, all_of, below, below_of}
use Rattle.channel.specs.Memory.{slots_length}
use Rattle.channel.specs.Sound.{sound}
use Rattle.server.specs.Memory.{server_length}
use Rattle.state.specs.declared.Settings.{Settings}
use Rattle.state.specs.State.{settings_of, servers_length, clients_length, server_start, server_at}
use Rattle.state.specs.State.{stopped_in, client_at}
use Rattle.state.specs.Sound.{is_none, are_allowed, length_tests, are_long, server_test}
use Rattle.state.specs.Sound.{are_servers_sound, is_client_sound, are_small, are_clients_sound}
use Rattle.state.specs.Sound.{is_link_sound, are_links_sound, are_channels_sound, sound_tests, is_sound}
use Rattle.state.proofs.StoredParts.{part_get}
use Rattle.state.proofs.Tested.{none_is, few_clients_lem, lengths}

pub record Allowed (settings : Settings) : Type 0 where
  pub accepted : Accepted (settings_of settings)
  pub marked : settings.faulty < 2 ^ most_servers

pub record Facts (settings : Settings) (servers clients slots : List ℕ) : Type 0 where
  pub allowed : Allowed settings
  pub servers_long : length servers ≡ servers_length
  pub clients_long : length clients ≡ clients_length
  pub slots_long : length slots ≡ slots_length
  pub stopped : stopped_in clients < 2 ^ settings.clients
  pub server : (j : ℕ) → j < most_servers → server_test settings (server_at servers j) j 0 ≡ true
  pub small : (i : ℕ) → i < clients_length → get_or clients i 0 < 2 ^ 64
  pub client : (i : ℕ) → i < most_clients → is_client_sound settings i (client_at clients i) ≡ true
  pub channels : sound slots ≡ true
  pub link : (i j : ℕ) → i < most_clients → j < most_servers
      → is_link_sound settings (stopped_in clients) slots i j ≡ true

pub allowed_facts : (settings : Settings) → are_allowed settings ≡ true → Allowed settings
unfolding are_allowed
allowed_facts settings h =
    let p = both (is_none (setup_refusal (settings_of settings))) (ltb settings.faulty (2 ^ most_servers)) h in
    record {
      accepted = none_is (setup_refusal (settings_of settings)) p.0;
      marked = ltb-true settings.faulty (2 ^ most_servers) p.1;
    }

pub allowed_of : (settings : Settings) → Allowed settings → are_allowed settings ≡ true
unfolding are_allowed
allowed_of settings allowed =
    both_of (is_none (setup_refusal (settings_of settings))) (ltb settings.faulty (2 ^ most_servers))
    (ap is_none allowed.accepted) (lt-ltb settings.faulty (2 ^ most_servers) allowed.marked)

-- at most six clients
pub most_six : (settings : Settings) (servers clients slots : List ℕ) → Facts settings servers clients slots
    → settings.clients ≤ most_clients
most_six settings servers clients slots f = few_clients_lem settings (allowed_of settings f.allowed)

module _ (settings : Settings) (servers clients slots : List ℕ) where
  abbrev server_test_lem : ℕ → Bool
  server_test_lem j = server_test settings servers j (server_start j)

  abbrev small_test : ℕ → Bool
  small_test i = ltb (get_or clients i 0) (2 ^ 64)

  -- a server's numbers, in the whole memory and in its part
  at_part : (j : ℕ) → server_test settings (server_at servers j) j 0 ≡ server_test_lem j
  at_part j = rw (
    part_get servers (server_start j) server_length 0 (omega arith),
    part_get servers (server_start j) server_length 1 (omega arith),
  )

  pub facts : is_sound settings servers clients slots ≡ true → Facts settings servers clients slots
  unfolding is_sound are_long are_servers_sound are_clients_sound are_small are_channels_sound are_links_sound
  facts h =
      let p = each (sound_tests settings servers clients slots) h in
      let long = lengths servers clients slots p.1.0 in
      let own = both (are_small clients) _ p.1.1.1.1.0 in
      let linked = both (all_below (are_links_sound settings (stopped_in clients) slots) most_clients)
      (sound slots) p.1.1.1.1.1.0 in
      record {
        allowed = allowed_facts settings p.0;
        servers_long = long.0;
        clients_long = long.1;
        slots_long = long.2;
        stopped = ltb-true (stopped_in clients) (2 ^ settings.clients) p.1.1.0;
        server = λ j less. at_part j ∙ below _ most_servers p.1.1.1.0 j less;
        small = λ i less. ltb-true (get_or clients i 0) (2 ^ 64) (below _ clients_length own.0 i less);
        client = below _ most_clients own.1;
        channels = linked.1;
        link = λ i j a e. below _ most_servers (below _ most_clients linked.0 i a) j e;
      }

  pub sound_of : Facts settings servers clients slots → is_sound settings servers clients slots ≡ true
  unfolding is_sound are_long are_servers_sound are_clients_sound are_small are_channels_sound are_links_sound
  sound_of f =
      let long = all_of (length_tests servers clients slots) (
        eq-eqb (length servers) servers_length f.servers_long,
        (
          eq-eqb (length clients) clients_length f.clients_long,
          (eq-eqb (length slots) slots_length f.slots_long, tt),
        ),
      ) in
      let stopped = lt-ltb (stopped_in clients) (2 ^ settings.clients) f.stopped in
      let servers_sound = below_of server_test_lem most_servers (λ j less. sym (at_part j) ∙ f.server j less) in
      let small = below_of small_test clients_length
      (λ i less. lt-ltb (get_or clients i 0) (2 ^ 64) (f.small i less)) in
      let clients_sound = both_of (are_small clients) _ small (below_of _ most_clients f.client) in
      let rows = are_links_sound settings (stopped_in clients) slots in
      let links = below_of rows most_clients (λ i a. below_of _ most_servers (λ j e. f.link i j a e)) in
      let channels = both_of (all_below rows most_clients) (sound slots) links f.channels in
      all_of (sound_tests settings servers clients slots)
      (allowed_of settings f.allowed, (long, (stopped, (servers_sound, (clients_sound, (channels, tt))))))
