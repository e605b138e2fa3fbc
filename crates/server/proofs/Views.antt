-- Servers in memory and servers of the model are the same thing, where memory is sound and the model has no
-- reader but clients 1 to 6: storing the view of one gives it back (`store_view`), and so does viewing what
-- is stored (`view_store`).
--
-- What is stored is sound (`store_sound`), what is viewed is formed (`view_formed`), and serving a message
-- keeps a server formed (`after_formed`).
-- Assumes nothing.
use Rattle.register.proofs.Vocabulary.{update, contains, set_of, Message, GetInfo, Info, Done, WriteInfo, Fwd}
use Rattle.register.proofs.Vocabulary.{WriteAck, next_server, most_clients}
use Rattle.basics.proofs.Prelude.{◌≡◌, refl, sym, ◌∙◌, Bool, true, false, ℕ, zero, suc, ◌^◌, ◌≤◌, ◌<◌, arith}
use Rattle.basics.proofs.Prelude.{ltb, ltb-true, ltb-false, lt-ltb}
use Rattle.basics.proofs.Cases.{by_test}
use Rattle.basics.proofs.Update.{update_at}
use Rattle.basics.proofs.BitSets.{set_back, set_lt, set_of_lem, set_above}
use Rattle.register.specs.Server as model
use Rattle.server.specs.declared.Server.{Server}
use Rattle.server.specs.State.{view, store, sound}

-- no reader but clients 1 to 6
pub record Formed (server : model.Server) : Type 0 where
  pub none : server.readers 0 ≡ false
  pub above : (i : ℕ) → most_clients ≤ i → server.readers (suc i) ≡ false

pub few : (server : Server) → sound server ≡ true → server.readers < 2 ^ most_clients
unfolding sound
few server h = ltb-true server.readers (2 ^ most_clients) h

pub store_view : (server : Server) → sound server ≡ true → store (view server) ≡ server
unfolding store view
store_view server h =
    λ i. record { pair = server.pair; readers = set_back server.readers most_clients (few server h) i }

same_readers : (server : model.Server) → Formed server → (d : ℕ)
    → contains (set_of server.readers most_clients) d ≡ server.readers d
unfolding contains
same_readers server formed zero = sym formed.none
same_readers server formed (suc i) =
    by_test (ltb i most_clients) (λ e. set_of_lem server.readers most_clients i (ltb-true i most_clients e))
    (λ e. set_above (set_of server.readers most_clients) most_clients i (set_lt server.readers most_clients)
    (ltb-false i most_clients e) ∙ sym (formed.above i (ltb-false i most_clients e)))

pub view_store : (server : model.Server) → Formed server → view (store server) ≡ server
unfolding store view
view_store server formed = λ i. record { pair = server.pair; readers = λ d. same_readers server formed d i }

pub store_sound : (server : model.Server) → sound (store server) ≡ true
unfolding store sound
store_sound server =
    lt-ltb (set_of server.readers most_clients) (2 ^ most_clients) (set_lt server.readers most_clients)

pub view_formed : (server : Server) → sound server ≡ true → Formed (view server)
unfolding view contains
view_formed server h =
    record { none = refl; above = λ i more. set_above server.readers most_clients i (few server h) more }

-- client d added or removed
update_formed : (server : model.Server) (d : ℕ) (reads : Bool) → Formed server → 1 ≤ d → d ≤ most_clients
    → Formed (record { pair = server.pair; readers = update server.readers d reads })
update_formed server d reads formed low top =
    record {
      none = update_at (λ r. r ≡ false) server.readers d 0 reads
          (λ e. absurd (let z : ⊥ = omega arith in z)) (λ e. formed.none);
      above = λ i more.
          update_at (λ r. r ≡ false) server.readers d (suc i) reads
          (λ e. absurd (let z : ⊥ = omega arith in z)) (λ e. formed.above i more);
    }

pub after_formed : (server : model.Server) (d : ℕ) (message : Message) → Formed server → 1 ≤ d
    → d ≤ most_clients → Formed (next_server server d message)
unfolding next_server
after_formed server d (GetInfo tag) formed low top = update_formed server d true formed low top
after_formed server d Done formed low top = update_formed server d false formed low top
after_formed server d (WriteInfo pair) formed low top = record { none = formed.none; above = formed.above }
after_formed server d (Info tag pair) formed low top = formed
after_formed server d (Fwd pair) formed low top = formed
after_formed server d (WriteAck count) formed low top = formed
