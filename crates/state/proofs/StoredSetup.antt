-- What is stored of the setup: zeros.
--
-- Why: at setup every pair is the initial one, no one reads, every client is idle at read number 0, and every
-- channel is empty. Each of these is stored as zero.
-- Assumes nothing.
use Rattle.register.proofs.Vocabulary.{set_of, new_client, new_server, most_servers, most_clients, new_world}
use Rattle.basics.proofs.Prelude.{◌≡◌, refl, ap, ◌∙◌, List, [], ◌∷◌, replicate, ℕ, ltb}
use Rattle.basics.proofs.Tables.{tabled_same}
use Rattle.basics.proofs.UpTo.{pick}
use Rattle.channel.specs.Memory.{upward, slots_length}
use Rattle.channel.proofs.Laws.{zero_rows, layout_same, layout_empty}
use Rattle.server.specs.Memory as server
use Rattle.server.specs.Memory.{server_length}
use Rattle.server.proofs.Memory as servers
use Rattle.client.specs.Memory as client
use Rattle.client.specs.Memory.{client_length}
use Rattle.client.proofs.Memory as clients
use Rattle.state.specs.State.{servers_length, clients_length, channel_of}
use Rattle.state.specs.State.{store_servers, store_stopped, store_clients, store_slots}

pub servers_new : store_servers new_world ≡ replicate servers_length 0
unfolding store_servers
servers_new =
    tabled_same (λ j. server.store new_server) (λ j. replicate server_length 0) most_servers
    (λ j less. servers.store_new)
    ∙ zero_rows server_length most_servers

pub clients_new : store_clients new_world ≡ replicate clients_length 0
unfolding store_clients store_stopped set_of
clients_new =
    ap (λ (l : List ℕ). 0 ∷ l)
    (tabled_same (λ i. client.store new_client) (λ i. replicate client_length 0) most_clients
    (λ i less. clients.store_new)
    ∙ zero_rows client_length most_clients)

pub slots_new : store_slots new_world ≡ replicate slots_length 0
unfolding store_slots channel_of
slots_new =
    layout_same (channel_of new_world) (λ c. [])
    (λ c less. pick (λ l. l ≡ []) (ltb c upward) [] [] (λ e. refl) (λ e. refl))
    ∙ layout_empty
