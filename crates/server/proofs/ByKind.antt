-- What the code makes of each kind of message is the model's next server, stored, and what the model sends.
--
-- A sound server stored again is itself (`Views`); the rest is adding or removing one client of the set
-- (`Sets`).
-- Assumes nothing.
use Rattle.basics.proofs.Prelude.{◌≡◌, refl, true, ℕ, ◌-◌, ◌≤◌}
use Rattle.basics.proofs.BitSets.{set_back}
use lib.Bits.{bit_and, bit_or}
use Rattle.register.proofs.Vocabulary.{Message, GetInfo, Info, Done, WriteInfo, Fwd, WriteAck, Pair}
use Rattle.register.proofs.Vocabulary.{ReadNumber, stored, next_server, server_sends, most_clients}
use Rattle.server.specs.declared.Sends.TheVariants as sends
use Rattle.server.specs.declared.Server.{Server}
use Rattle.server.specs.State.{view, store, sound}
use Rattle.server.specs.Serving.{sent_by, answer_of, after_of, served_of}
use Rattle.server.proofs.Sets.{bit, all_clients, adds, removes}
use Rattle.server.proofs.Views.{few, store_view}

module _ (server : Server) (d : ℕ) (h : sound server ≡ true) (low : 1 ≤ d) (top : d ≤ most_clients) where
  pub get_info : (tag : ReadNumber)
      → after_of d
      (record {
        server = record { pair = server.pair; readers = bit_or server.readers (bit d) };
        sends = sends.Info tag server.pair;
      }) ≡ served_of server d (GetInfo tag)
  unfolding next_server server_sends sent_by answer_of store view
  get_info tag = rw (adds server.readers d (few server h) low top)

  pub done : after_of d
      (record {
        server = record { pair = server.pair; readers = bit_and server.readers (all_clients - bit d) };
        sends = sends.Nothing;
      }) ≡ served_of server d Done
  unfolding next_server server_sends sent_by answer_of store view
  done = rw (removes server.readers d (few server h) low top)

  -- a message that is neither GET_INFO nor DONE nor WRITE_INFO changes nothing
  pub other : (message : Message) → ((tag : ReadNumber) → message ≡ GetInfo tag → ⊥) → (message ≡ Done → ⊥)
      → ((pair : Pair) → message ≡ WriteInfo pair → ⊥)
      → after_of d (record { server = server; sends = sends.Nothing }) ≡ served_of server d message
  unfolding next_server server_sends sent_by answer_of
  other (GetInfo tag) get done write = absurd (get tag refl)
  other Done get done write = absurd (done refl)
  other (WriteInfo pair) get done write = absurd (write pair refl)
  other (Info tag pair) get done write = rw (store_view server h)
  other (Fwd pair) get done write = rw (store_view server h)
  other (WriteAck count) get done write = rw (store_view server h)

-- WRITE_INFO, of any client
pub write_info : (server : Server) → sound server ≡ true → (d : ℕ) (pair kept : Pair)
    → kept ≡ stored server.pair pair
    → after_of d
    (record {
      server = record { pair = kept; readers = server.readers };
      sends = sends.Forward server.readers pair;
    })
    ≡ served_of server d (WriteInfo pair)
unfolding next_server server_sends sent_by answer_of store view
write_info server h d pair kept e = rw (e, set_back server.readers most_clients (few server h))
