-- Sets of clients and servers are found again in what is stored of them.
--
-- A set of clients 1 to 6 is its bits (`set_is`), so the stopped clients are, and a server's readers: a
-- stored server is shown again by its memory (`server_is`).
-- Assumes nothing.
use Rattle.basics.proofs.Prelude.{◌≡◌, refl, sym, ap, ◌∙◌, Bool, false, ℕ, suc, ◌≤◌, arith}
use Rattle.basics.proofs.Prelude.{ltb-false}
use Rattle.register.proofs.Vocabulary.{contains, set_of, is_up_to, Server, Settings, most_clients, Accepted}
use Rattle.register.proofs.Vocabulary.{is_client, Formats, World, WellServer, WellFormed}
use Rattle.basics.proofs.Cases.{true_or_false}
use Rattle.basics.proofs.BitSets.{set_lt, set_of_lem, set_above}
use Rattle.basics.proofs.UpTo.{never, of_range, over_range, by_places}
use Rattle.register.proofs.Bounds.{client_small}
use Rattle.server.specs.State as value
use Rattle.server.specs.Memory.{loaded, view, store}
use Rattle.server.proofs.Memory.{loaded_numbers}
use Rattle.state.specs.State.{store_stopped}

pub set_is : (p : ℕ → Bool) → ((d : ℕ) → is_up_to most_clients d ≡ false → p d ≡ false)
    → contains (set_of p most_clients) ≡ p
unfolding contains
set_is p none_else =
    by_places most_clients (contains (set_of p most_clients)) p (sym (none_else 0 refl)) (set_of_lem p most_clients)
    (λ i h. let over : most_clients ≤ i = ltb-false i most_clients h in
    set_above (set_of p most_clients) most_clients i (set_lt p most_clients) over
    ∙ sym (none_else (suc i) (over_range most_clients (suc i) (omega arith))))

-- what a step loads of a stored server
pub loaded_is : (server : Server) → loaded (store server) ≡ value.store server
unfolding store value.store
loaded_is server =
    let small = set_lt server.readers most_clients in loaded_numbers (value.store server) (omega arith)

module _ (S : Settings) (accepted : Accepted S) where
  -- clients are among 1 to 6
  pub no_client : (d : ℕ) → is_up_to most_clients d ≡ false → is_client S d ≡ false
  no_client d h =
      never (is_client S d)
      (λ e. let r = client_small S accepted d e in
      true_or_false (is_up_to most_clients d) (of_range most_clients d r.0 r.1) h)

  pub stopped_is : (F : Formats) (world : World) → WellFormed S F world → contains (store_stopped world)
      ≡ world.stopped
  unfolding store_stopped
  stopped_is F world well = set_is world.stopped (λ d h. well.stopped_unused d (no_client d h))

  module _ (server : Server) (well : WellServer S server) where
    readers_is : contains (set_of server.readers most_clients) ≡ server.readers
    readers_is = set_is server.readers (λ d h. well.readers d (no_client d h))

    pub server_is : view (store server) ≡ server
    unfolding view value.view value.store
    server_is =
        ap value.view (loaded_is server) ∙ (λ i. record { pair = server.pair; readers = readers_is i })
