-- The parts of a stored world: each server and each client stands in a row of its own, and the stopped
-- clients before the clients.
--
-- Why: the servers' memory is a table of 13 rows of two numbers, the clients' a table of six rows of 95
-- behind one number, so what is read at a row is that row, and to put another there changes that server or
-- client alone (`Tables`).
-- Assumes nothing.
use Rattle.basics.proofs.Prelude.{◌≡◌, refl, ap, ◌∙◌, List, [], ◌∷◌, length, get_or, drop, ℕ, suc, ◌+◌, ◌-◌}
use Rattle.basics.proofs.Prelude.{◌≤◌, ◌<◌, arith}
use lib.Seq.{get_or-take, get_or-drop}
use Rattle.register.proofs.Vocabulary.{tabled, part_at, update, Client, Server, most_servers, most_clients}
use Rattle.register.proofs.Vocabulary.{World}
use Rattle.basics.proofs.Tables.{tabled_same, tabled_update, tabled_length, tabled_part, tabled_put}
use Rattle.basics.proofs.Tables.{tabled_part_alone, tabled_put_alone}
use Rattle.basics.proofs.UpTo.{back_one, same_place}
use Rattle.server.specs.Memory as server
use Rattle.server.specs.Memory.{server_length}
use Rattle.server.proofs.Memory as servers
use Rattle.client.specs.Memory as client
use Rattle.client.specs.Memory.{client_length}
use Rattle.client.proofs.Memory as clients
use Rattle.state.specs.State.{servers_length, server_at, put_server}
use Rattle.state.specs.State.{clients_length, stopped_in, client_at, put_client}
use Rattle.state.specs.State.{store_servers, store_stopped, store_clients}

-- a number of a part
pub part_get : (l : List ℕ) (at width i : ℕ) → i < width → get_or (part_at at width l) i 0 ≡ get_or l (at + i) 0
part_get l at width i h = get_or-take width (drop at l) i 0 h ∙ get_or-drop at l i 0

-- numbers from 1 on and their places
update_place : {A : Type 0} (f : ℕ → A) (k j : ℕ) (a : A) → 1 ≤ k
    → update (λ i. f (suc i)) (k - 1) a j ≡ update f k a (suc j)
unfolding update
update_place f k j a low = rw (same_place k j low)

table_update : {X : Type 0} (store : X → List ℕ) (f : ℕ → X) (n k : ℕ) (x : X) → 1 ≤ k
    → tabled (update (λ j. store (f (suc j))) (k - 1) (store x)) n
    ≡ tabled (λ j. store (update f k x (suc j))) n
table_update store f n k x low =
    tabled_update store (λ j. f (suc j)) (k - 1) x n
    ∙ tabled_same (λ j. store (update (λ i. f (suc i)) (k - 1) x j)) (λ j. store (update f k x (suc j))) n
    (λ j less. ap store (update_place f k j x low))

-- ---- servers

-- the memory of servers f 1 to f 13
abbrev pub servers_of : (ℕ → Server) → List ℕ
servers_of f = tabled (λ j. server.store (f (suc j))) most_servers

pub servers_are : (world : World) → store_servers world ≡ servers_of world.servers
unfolding store_servers
servers_are world = refl

module _ (f : ℕ → Server) where
  server_wide : (j : ℕ) → j < most_servers → length (server.store (f (suc j))) ≡ server_length
  server_wide j less = servers.store_length (f (suc j))

  pub servers_long_lem : length (servers_of f) ≡ servers_length
  servers_long_lem = tabled_length server_length (λ j. server.store (f (suc j))) most_servers server_wide

  -- by place
  pub server_there : (j : ℕ) → j < most_servers → server_at (servers_of f) j ≡ server.store (f (suc j))
  server_there = tabled_part_alone server_length (λ i. server.store (f (suc i))) most_servers server_wide

  module _ (k : ℕ) (low : 1 ≤ k) (high : k ≤ most_servers) where
    pub server_of : server_at (servers_of f) (k - 1) ≡ server.store (f k)
    server_of = server_there (k - 1) (omega arith) ∙ ap (λ (j : ℕ). server.store (f j)) (back_one k low)

    pub server_put : (new : Server)
        → put_server (servers_of f) (k - 1) (server.store new) ≡ servers_of (update f k new)
    server_put new =
        tabled_put_alone server_length (λ j. server.store (f (suc j))) most_servers server_wide (k - 1)
        (omega arith)
        (server.store new) ∙ table_update server.store f most_servers k new low

-- ---- clients

-- the memory of a set of stopped clients, and of clients f 1 to f 6
abbrev pub clients_of : ℕ → (ℕ → Client) → List ℕ
clients_of stopped f = stopped ∷ tabled (λ i. client.store (f (suc i))) most_clients

module _ (stopped : ℕ) (f : ℕ → Client) where
  client_wide : (i : ℕ) → i < most_clients → length (client.store (f (suc i))) ≡ client_length
  client_wide i less = clients.store_length (f (suc i))

  pub clients_long_lem : length (clients_of stopped f) ≡ clients_length
  clients_long_lem = ap suc (tabled_length client_length (λ i. client.store (f (suc i))) most_clients client_wide)

  -- by place
  pub client_there : (i : ℕ) → i < most_clients → client_at (clients_of stopped f) i ≡ client.store (f (suc i))
  client_there =
      tabled_part client_length (λ j. client.store (f (suc j))) most_clients client_wide (stopped ∷ [])

  module _ (d : ℕ) (low : 1 ≤ d) (high : d ≤ most_clients) where
    pub client_of_lem : client_at (clients_of stopped f) (d - 1) ≡ client.store (f d)
    client_of_lem = client_there (d - 1) (omega arith) ∙ ap (λ (i : ℕ). client.store (f i)) (back_one d low)

    pub client_put : (new : Client)
        → put_client (clients_of stopped f) (d - 1) (client.store new) ≡ clients_of stopped (update f d new)
    client_put new =
        tabled_put client_length (λ i. client.store (f (suc i))) most_clients client_wide (stopped ∷ []) (d - 1)
        (omega arith) (client.store new)
        ∙ ap (λ (l : List ℕ). stopped ∷ l) (table_update client.store f most_clients d new low)

-- ---- of a world

module _ (world : World) where
  pub servers_length_lem : length (store_servers world) ≡ servers_length
  unfolding store_servers
  servers_length_lem = servers_long_lem world.servers

  pub server_at_lem : (k : ℕ) → 1 ≤ k → k ≤ most_servers
      → server_at (store_servers world) (k - 1) ≡ server.store (world.servers k)
  unfolding store_servers
  server_at_lem = server_of world.servers

  pub clients_length_lem : length (store_clients world) ≡ clients_length
  unfolding store_clients
  clients_length_lem = clients_long_lem (store_stopped world) world.clients

  pub client_at_lem : (d : ℕ) → 1 ≤ d → d ≤ most_clients
      → client_at (store_clients world) (d - 1) ≡ client.store (world.clients d)
  unfolding store_clients
  client_at_lem = client_of_lem (store_stopped world) world.clients

  pub stopped_at_lem : stopped_in (store_clients world) ≡ store_stopped world
  unfolding store_clients
  stopped_at_lem = refl
