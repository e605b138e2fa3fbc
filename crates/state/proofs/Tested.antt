-- What the tests of soundness stand on: who is there, by places; allowed settings have at most six clients;
-- the lengths.
-- Assumes nothing.
use Rattle.basics.proofs.Prelude.{◌≡◌, refl, true, false, not, ◌&&◌, List, Option, None, Some}
use Rattle.basics.proofs.Prelude.{length, ℕ, suc, ◌^◌, ◌≤◌, arith, ltb}
use Rattle.basics.proofs.Prelude.{eqb-true, le-leb}
use Rattle.register.proofs.Vocabulary.{contains, Refusal, most_servers, most_clients, is_server, is_honest}
use Rattle.register.proofs.Vocabulary.{setup_refusal}
use Rattle.basics.proofs.Cases.{both, true_or_false}
use Rattle.basics.proofs.Tests.{each}
use Rattle.register.proofs.Bounds.{bounds}
use Rattle.channel.specs.Memory.{slots_length}
use Rattle.state.specs.declared.Settings.{Settings}
use Rattle.state.specs.State.{settings_of, servers_length, clients_length}
use Rattle.state.specs.Sound.{is_none, are_allowed, length_tests, are_long}

module _ (settings : Settings) (j : ℕ) where
  pub server_place : is_server (settings_of settings) (suc j) ≡ ltb j settings.n
  unfolding is_server settings_of
  server_place = rw (le-leb 1 (suc j) (omega arith))

  pub honest_place : is_honest (settings_of settings) (suc j)
      ≡ ltb j settings.n && not (contains settings.faulty (suc j))
  unfolding is_honest settings_of
  honest_place = rw server_place

-- ---- allowed settings

pub none_is : (refusal : Option Refusal) → is_none refusal ≡ true → refusal ≡ None
none_is None h = refl
none_is (Some why) h = absurd (true_or_false false h refl)

pub few_clients_lem : (settings : Settings) → are_allowed settings ≡ true → settings.clients ≤ most_clients
unfolding are_allowed settings_of
few_clients_lem settings h =
    let p = both (is_none (setup_refusal (settings_of settings))) (ltb settings.faulty (2 ^ most_servers)) h in
    (bounds (settings_of settings) (none_is (setup_refusal (settings_of settings)) p.0)).six_clients

-- ---- lengths

module _ (servers clients slots : List ℕ) where
  pub lengths : are_long servers clients slots ≡ true
      → (length servers ≡ servers_length) × (length clients ≡ clients_length) × (length slots ≡ slots_length)
  unfolding are_long
  lengths h =
      let p = each (length_tests servers clients slots) h in (
        eqb-true _ servers_length p.0,
        eqb-true _ clients_length p.1.0,
        eqb-true _ slots_length p.1.1.0,
      )
