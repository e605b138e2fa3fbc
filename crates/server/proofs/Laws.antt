-- What a user of a server may rely on.
--
-- A message served makes it the model's next server (`view_after`); what it sends is in the contract itself.
-- Whatever bytes come from whomever, sound memory stays sound (`sound_kept`) and the timestamp in it never
-- falls (`stamp_kept`): a refusal leaves it as it was, what is stored is sound, and WRITE_INFO replaces the
-- pair only by one of a higher timestamp.
-- Assumes nothing.
use Rattle.basics.proofs.Prelude.{◌≡◌, refl, ap, ◌∙◌, true, List, ℕ, ◌≤◌, le_refl, arith, leb, ltb, leb-true}
use Rattle.basics.proofs.Prelude.{leb-false, ltb-true}
use Rattle.std.specs.Prelude.{Ok, Err}
use Rattle.basics.proofs.Cases.{by_test}
use Rattle.register.proofs.Vocabulary.{Message, GetInfo, Info, Done, WriteInfo, Fwd, WriteAck, Pair, Unpacked}
use Rattle.register.proofs.Vocabulary.{unpack_of, goes_up, goes, stamp, stored, next_server, most_clients}
use Rattle.register.specs.Server as model
use Rattle.server.specs.declared.Served.{Served}
use Rattle.server.specs.declared.Server.{Server}
use Rattle.server.specs.State as state
use Rattle.server.specs.State.{sound}
use Rattle.server.specs.Memory.{loaded, numbers_of, view, store, is_sound}
use Rattle.server.specs.Serving.{sent_by, After, after_of, served_of, served_in}
use Rattle.server.specs.Serving as serving
use Rattle.server.specs.Serving.{became, bytes_served}
use Rattle.server.proofs.Memory.{store_sound}
use Rattle.server.proofs.Views as views
use Rattle.server.proofs.Views.{after_formed}
use Rattle.server.proofs.Outcomes.{unsound, no_process_low, no_process_high, malformed, served}

-- ---- a message served

pub view_after : (server : Server) (d : ℕ) (message : Message) → sound server ≡ true → 1 ≤ d → d ≤ most_clients
    → state.view (served_of server d message).server ≡ next_server (state.view server) d message
view_after server d message h low top =
    views.view_store (next_server (state.view server) d message)
    (after_formed (state.view server) d message (views.view_formed server h) low top)

-- the same in memory, given what is served by value and the numbers stored
pub served_in_lem : (memory : List ℕ) (d : ℕ) (message : Message) (given : Served) (numbers : List ℕ)
    → after_of d given ≡ served_of (loaded memory) d message → numbers ≡ numbers_of given.server
    → became (Ok (serving.given given.sends (sent_by d given.sends))) numbers ≡ served_in memory d message
unfolding view store
served_in_lem memory d message given numbers e f =
    let next = f ∙ ap (λ (q : After). numbers_of q.server) e in
    λ i. record { result = Ok (serving.given (e i).answer (e i).sends); memory = next i }

stored_stamp : (old new : Pair) → stamp old ≤ stamp (stored old new)
unfolding stored
stored_stamp old new =
    by_test (ltb (stamp old) (stamp new))
    (λ e. rw e (let l = ltb-true (stamp old) (stamp new) e in omega arith))
    (λ e. rw e (le_refl (stamp old)))

pub after_stamp : (server : model.Server) (d : ℕ) (message : Message)
    → stamp server.pair ≤ stamp (next_server server d message).pair
unfolding next_server
after_stamp server d (GetInfo tag) = le_refl (stamp server.pair)
after_stamp server d Done = le_refl (stamp server.pair)
after_stamp server d (WriteInfo pair) = stored_stamp server.pair pair
after_stamp server d (Info tag pair) = le_refl (stamp server.pair)
after_stamp server d (Fwd pair) = le_refl (stamp server.pair)
after_stamp server d (WriteAck count) = le_refl (stamp server.pair)

-- ---- bytes served or refused

-- what holds of memory before and after each message holds after any bytes
module _ (P : List ℕ → Type 0) (memory : List ℕ) (d : ℕ) (bytes : List ℕ) (same : P memory)
    (next : (message : Message) → P (store (next_server (view memory) d message))) where
  by_message : is_sound memory ≡ true → 1 ≤ d → d ≤ most_clients → (unpacked : Unpacked)
      → unpack_of bytes ≡ unpacked → P (bytes_served memory d bytes).memory
  unfolding goes
  by_message h low top (Err why) e = rw (malformed memory d bytes h low top (ap goes_up e)) same
  by_message h low top (Ok message) e =
      by_test (goes_up (Ok message))
      (λ good. rw (served memory d bytes h low top message e good) (next message))
      (λ bad. rw (malformed memory d bytes h low top (ap goes_up e ∙ bad)) same)

  by_outcome : P (bytes_served memory d bytes).memory
  by_outcome =
      by_test (is_sound memory)
      (λ h. by_test (leb 1 d)
      (λ low. by_test (leb d most_clients)
      (λ top. by_message h (leb-true 1 d low) (leb-true d most_clients top) (unpack_of bytes) refl)
      (λ over. rw (no_process_high memory d bytes h (leb-true 1 d low) (leb-false d most_clients over)) same))
      (λ no. rw (no_process_low memory d bytes h (leb-false 1 d no)) same))
      (λ no. rw (unsound memory d bytes no) same)

pub sound_kept : (memory : List ℕ) (d : ℕ) (bytes : List ℕ) → is_sound memory ≡ true
    → is_sound (bytes_served memory d bytes).memory ≡ true
sound_kept memory d bytes h =
    by_outcome (λ after. is_sound after ≡ true) memory d bytes h
    (λ message. store_sound (next_server (view memory) d message))

pub stamp_kept : (memory : List ℕ) (d : ℕ) (bytes : List ℕ)
    → stamp (view memory).pair ≤ stamp (view (bytes_served memory d bytes).memory).pair
unfolding view store loaded numbers_of state.view state.store
stamp_kept memory d bytes =
    by_outcome (λ after. stamp (view memory).pair ≤ stamp (view after).pair) memory d bytes
    (le_refl (stamp (view memory).pair)) (λ message. after_stamp (view memory) d message)
