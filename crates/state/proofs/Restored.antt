-- A sound state is the stored form of the world that it stands for.
--
-- Part by part: the memory of a server or of a client is what is stored of what it shows, and the whole is
-- the table of its parts; the stopped clients are their bits; the slots are the layout of their messages.
-- Assumes nothing.
use Rattle.basics.proofs.Prelude.{◌≡◌, sym, ap, ◌∙◌, cond, ◌&&◌, List, [], ◌∷◌, ◌++◌, length, take, drop}
use Rattle.basics.proofs.Prelude.{length-drop, length-take-le, ℕ, suc, ◌+◌, ◌-◌, ◌/◌, ◌%◌, ◌≤◌, ◌<◌, arith}
use Rattle.basics.proofs.Prelude.{ltb, ltb-true, ltb-false}
use lib.Seq.{take-suc}
use Rattle.register.proofs.Vocabulary.{tabled, part_at, is_up_to, most_servers, most_clients, World}
use Rattle.basics.proofs.Tables.{tabled_same, tabled_back, tabled_back_alone}
use Rattle.basics.proofs.BitSets.{set_back}
use Rattle.basics.proofs.UpTo.{of_range, pick, less_one}
use Rattle.channel.specs.Memory.{upward, channels}
use Rattle.channel.specs.Sound.{messages}
use Rattle.channel.proofs.Laws.{layout_same}
use Rattle.channel.proofs.Messages.{layout_messages}
use Rattle.server.specs.Memory as server
use Rattle.server.specs.Memory.{server_length}
use Rattle.client.specs.Memory as client
use Rattle.client.specs.Memory.{client_length}
use Rattle.state.specs.declared.Settings.{Settings}
use Rattle.state.specs.State.{server_start, server_at, stopped_in, client_at, channel_of}
use Rattle.state.specs.State.{store_servers, store_stopped, store_clients, store_slots, view}
use Rattle.state.proofs.SoundFacts.{Facts, most_six}
use Rattle.state.proofs.SoundServer.{below_six, server_back}
use Rattle.state.proofs.SoundClient.{client_back}

-- a part of a list that is long enough
part_length : (l : List ℕ) (at width : ℕ) → at + width ≤ length l → length (part_at at width l) ≡ width
part_length l at width h = length-take-le width (drop at l) (rw (length-drop at l) (omega arith))

module _ (settings : Settings) (servers clients slots : List ℕ)
    (facts : Facts settings servers clients slots) where
  six : settings.clients ≤ most_clients
  six = most_six settings servers clients slots facts

  abbrev shown : World
  shown = view servers clients slots

  -- ---- servers

  server_same : (j : ℕ) → j < most_servers → server.store (shown.servers (suc j)) ≡ server_at servers j
  unfolding view
  server_same j less =
      let all = facts.servers_long in
      let long = part_length servers (server_start j) server_length (omega arith) in
      rw (of_range most_servers (suc j) (omega arith) less, less_one j)
      (server_back settings six j (server_at servers j) (facts.server j less) long)

  pub servers_back : store_servers (view servers clients slots) ≡ servers
  unfolding store_servers
  servers_back =
      tabled_same (λ j. server.store (shown.servers (suc j))) (server_at servers) most_servers server_same
      ∙ tabled_back_alone server_length servers most_servers facts.servers_long

  -- ---- clients

  stopped_back : store_stopped shown ≡ stopped_in clients
  unfolding store_stopped view
  stopped_back =
      set_back (stopped_in clients) most_clients
      (below_six settings.clients (stopped_in clients) six facts.stopped)

  client_same : (i : ℕ) → i < most_clients → client.store (shown.clients (suc i)) ≡ client_at clients i
  unfolding view
  client_same i less =
      rw (of_range most_clients (suc i) (omega arith) less, less_one i)
      (client_back settings i (client_at clients i) (facts.client i less))

  pub clients_back : store_clients (view servers clients slots) ≡ clients
  unfolding store_clients
  clients_back =
      let long = facts.clients_long in
      let first : take 1 clients ≡ stopped_in clients ∷ [] = take-suc clients 0 0 (omega arith) in
      rw (
        stopped_back,
        tabled_same (λ i. client.store (shown.clients (suc i))) (client_at clients) most_clients client_same,
      )
      (ap (λ (l : List ℕ). l ++ tabled (client_at clients) most_clients) (sym first)
      ∙ tabled_back client_length clients 1 most_clients long)

  -- ---- slots

  -- the messages at an index, where the two are there
  link_back : (i j x y : ℕ) → i < most_clients → j < most_servers → x ≡ y
      → cond (is_up_to most_clients (suc i) && is_up_to most_servers (suc j)) (messages slots x) []
      ≡ messages slots y
  link_back i j x y client server e =
      rw (
        of_range most_clients (suc i) (omega arith) client,
        of_range most_servers (suc j) (omega arith)
            server,
        e,
      )

  channel_back : (channel : ℕ) → channel < channels → channel_of shown channel ≡ messages slots channel
  unfolding channel_of view
  channel_back channel less =
      pick (λ l. l ≡ messages slots channel) (ltb channel upward) _ _
      (λ e. let low = ltb-true channel upward e in
      link_back (channel / most_servers) (channel % most_servers) _ channel (omega arith) (omega arith)
      (omega arith)) (λ e. let high = ltb-false channel upward e in
      link_back ((channel - upward) / most_servers) ((channel - upward) % most_servers) _ channel (omega arith)
      (omega arith) (omega arith))

  pub slots_back : store_slots (view servers clients slots) ≡ slots
  unfolding store_slots
  slots_back =
      layout_same (channel_of shown) (messages slots) channel_back
      ∙ layout_messages slots facts.channels facts.slots_long
