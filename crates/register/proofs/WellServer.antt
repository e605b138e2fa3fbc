-- A well-formed server stays well formed when it serves a message of a client.
--
-- Why: GET_INFO and DONE change one reader, the sender, who is a client; WRITE_INFO may bring a pair, and
-- messages on channels have their fields in their widths. What it sends is of the kinds that servers send,
-- in the widths of what it served.
-- Assumes nothing.
use Rattle.register.proofs.Vocabulary.{update, Member, Settings, is_client, Server, stored, next_server}
use Rattle.register.proofs.Vocabulary.{server_sends, forwards, Sent, sent, sent_to, FromClient}
use Rattle.register.proofs.Vocabulary.{FromServer}
use Rattle.basics.proofs.Prelude.{◌≡◌, refl, Bool, true, false, inl, inr, List, [], ◌∷◌, ℕ, ◌^◌, ◌<◌, eqb}
use Rattle.basics.proofs.Prelude.{ltb, eqb-true}
use Rattle.basics.proofs.Cases.{by_test, by_either, true_or_false}
use Rattle.basics.proofs.Members.{member_cases}
use Rattle.basics.proofs.Update.{update_at}
use Rattle.message.proofs.Pairs.{counter_fits}
use Rattle.register.specs.Settings.{most_clients}
use Rattle.register.specs.WellFormed.{WellServer}
use Rattle.register.proofs.Vocabulary.{Message, GetInfo, Info, Done, WriteInfo, Fwd, WriteAck, Pair}
use Rattle.register.proofs.Vocabulary.{stamp, counter}
use Rattle.register.proofs.Sends.{forwards_member}

stored_fits : (pair other : Pair) → pair.0 < 2 ^ 64 → other.0 < 2 ^ 64 → (stored pair other).0 < 2 ^ 64
unfolding stored
stored_fits pair other a b = by_test (ltb (stamp pair) (stamp other)) (λ e. rw e b) (λ e. rw e a)

module _ (settings : Settings) (server : Server) (d : ℕ) (client : is_client settings d ≡ true)
    (well : WellServer settings server) where
  -- one reader changed: a client
  reader_changed : (test : Bool) (d' : ℕ) → is_client settings d' ≡ false
      → update server.readers d test d' ≡ false
  reader_changed test d' h =
      update_at (λ r. r ≡ false) server.readers d d' test
      (λ same. absurd (true_or_false (is_client settings d') (rw same at client) h))
      (λ other. well.readers d' h)

  pub well_after : (message : Message) → FromClient message
      → WellServer settings (next_server server d message)
  unfolding next_server
  well_after (GetInfo tag) kind = record { pair = well.pair; readers = reader_changed true }
  well_after (Info tag pair) kind = absurd kind
  well_after Done kind = record { pair = well.pair; readers = reader_changed false }
  well_after (WriteInfo pair) kind =
      record { pair = stored_fits server.pair pair well.pair kind; readers = well.readers }
  well_after (Fwd pair) kind = absurd kind
  well_after (WriteAck count) kind = absurd kind

-- ---- what it sends

-- a message goes to a client, and is of the kinds that servers send
pub record WellSent (settings : Settings) (reply : Sent) : Type 0 where
  pub client : is_client settings reply.to ≡ true
  pub kind : FromServer reply.message

module _ (settings : Settings) (server : Server) (d : ℕ) (client : is_client settings d ≡ true)
    (well : WellServer settings server) where
  well_reply : (message : Message) → FromServer message → (reply : Sent) → Member reply (sent d message ∷ [])
      → WellSent settings reply
  well_reply message kind reply (inr x') = elim x' [ ]
  well_reply message kind reply (inl e) = rw e (record { client = client; kind = kind })

  reader_client : (d' : ℕ) → server.readers d' ≡ true → is_client settings d' ≡ true
  reader_client d' reads =
      by_test (is_client settings d') (λ h. h)
      (λ h. absurd (true_or_false (server.readers d') reads (well.readers d' h)))

  well_forward : (pair : Pair) → pair.0 < 2 ^ 64 → (reply : Sent)
      → Member reply (forwards server.readers pair most_clients) → WellSent settings reply
  well_forward pair fits reply member =
      let g = forwards_member server.readers pair most_clients reply.to reply.message member in
      record { client = reader_client reply.to g.1; kind = rw g.0 fits }

  pub well_sends : (message : Message) → FromClient message → (reply : Sent)
      → Member reply (server_sends server d message) → WellSent settings reply
  unfolding server_sends
  well_sends (GetInfo tag) kind reply member =
      well_reply (Info tag server.pair) (kind, well.pair) reply member
  well_sends (Info tag pair) kind reply member = absurd kind
  well_sends Done kind reply member = absurd member
  well_sends (WriteInfo pair) kind reply member =
      by_either (member_cases reply (forwards server.readers pair most_clients) _ member)
      (λ g. well_forward pair kind reply g)
      (λ g. well_reply (WriteAck (counter pair)) (counter_fits pair kind) reply g)
  well_sends (Fwd pair) kind reply member = absurd kind
  well_sends (WriteAck count) kind reply member = absurd kind

-- ---- what goes to one client

pub none_there : (d : ℕ) (replies : List Sent) → ((reply : Sent) → Member reply replies → reply.to ≡ d → ⊥)
    → sent_to d replies ≡ []
unfolding sent_to
none_there d [] h = refl
none_there d (reply ∷ replies) h =
    by_test (eqb reply.to d) (λ t. absurd (h reply (inl refl) (eqb-true reply.to d t)))
    (λ t. rw t (none_there d replies (λ other member. h other (inr member))))
