-- A sound state has what a step asks of it.
--
-- Why: soundness tests every client and every channel, of which those that are not used must be empty; and
-- the servers are those of a stored world (`state`).
-- Assumes nothing.
use Rattle.basics.proofs.Prelude.{◌≡◌, sym, ap, ◌∙◌, true, ◌&&◌, ◌||◌, List, get_or, ℕ, suc, ◌≤◌, ◌<◌}
use Rattle.basics.proofs.Prelude.{eqb, ltb, eqb-true}
use Rattle.basics.proofs.Cases.{by_test, both, true_or_false}
use Rattle.register.proofs.Vocabulary.{is_honest, most_servers, most_clients}
use Rattle.register.proofs.Bounds.{bounds}
use Rattle.channel.specs.Memory.{count_at}
use Rattle.channel.proofs.Messages.{counts_fit, oldest_goes}
use Rattle.server.specs.Memory as server
use Rattle.server.proofs.Memory.{store_sound}
use Rattle.client.specs.Sound.{is_sound_memory}
use Rattle.state.specs.declared.Settings.{Settings}
use Rattle.state.specs.Sound.{is_client_sound, uses_up, is_link_sound}
use Rattle.state.specs.State.{settings_of, server_at, client_at, up_index, view}
use Rattle.state.proofs.Restored.{servers_back}
use Rattle.state.proofs.SoundFacts.{Facts, most_six}
use Rattle.state.proofs.SoundServer.{below_six}
use Rattle.state.proofs.StoredParts.{servers_are, server_there}
use Rattle.steps.specs.Ready.{Ready, SpareEmpty}
use Rattle.client.specs.Memory.{reads_at, phase_at}

module _ (settings : Settings) (servers clients slots : List ℕ)
    (known : Facts settings servers clients slots) where
  server_sound : (j : ℕ) → j < most_servers → server.is_sound (server_at servers j) ≡ true
  server_sound j less =
      let world = view servers clients slots in
      ap (λ (l : List ℕ). server.is_sound (server_at l j))
      (sym (servers_back settings servers clients slots known) ∙ servers_are world)
      ∙ ap server.is_sound (server_there world.servers j less) ∙ store_sound (world.servers (suc j))

  client_sound : (i : ℕ) → i < most_clients
      → is_sound_memory settings.n settings.f (client_at clients i) ≡ true
  unfolding is_client_sound
  client_sound i less =
      let memory = client_at clients i in
      let unused = eqb (get_or memory reads_at 0) 0 && eqb (get_or memory phase_at 0) 0 in
      (both (is_sound_memory settings.n settings.f memory) (ltb i settings.clients || unused)
      (known.client i less)).0

  -- a channel that is not used is empty
  spare_empty : SpareEmpty settings slots
  unfolding is_link_sound
  spare_empty i j client server other =
      let n : ℕ = count_at slots (up_index i j) in
      let link = (both (eqb n 0 || uses_up settings i j) _ (known.link i j client server)).0 in
      by_test (eqb n 0) (eqb-true n 0)
      (λ no. let used : uses_up settings i j ≡ true = rw no at link in
      absurd (true_or_false _
      (both (ltb i settings.clients) (is_honest (settings_of settings) (suc j)) used).1 other))

  few_servers_lem : settings.n ≤ most_servers
  unfolding settings_of
  few_servers_lem = (bounds (settings_of settings) known.allowed.accepted).most

  pub ready : Ready settings servers clients slots
  ready =
      record {
        few_servers = few_servers_lem;
        few_clients = most_six settings servers clients slots known;
        servers_long = known.servers_long;
        clients_long = known.clients_long;
        stopped = below_six settings.clients _ (most_six settings servers clients slots known)
            known.stopped;
        server = server_sound;
        client = client_sound;
        counts = counts_fit slots known.channels;
        spare = spare_empty;
        ways = oldest_goes slots known.channels;
      }
