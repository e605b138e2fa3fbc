-- The stored replies of a well-formed client are sound, and all their numbers have 64 bits.
--
-- Why: what a well-formed client holds of a server keeps the bounds that soundness asks, and is nothing where
-- the server or the phase has no use for it. Each number of the four rows is one of these.
-- Assumes nothing.
use Rattle.basics.proofs.Prelude.{◌≡◌, refl, sym, ap, ◌∙◌, Bool, true, false, cond, ◌&&◌, List, ◌++◌, Option}
use Rattle.basics.proofs.Prelude.{None, Some, length, ℕ, zero, suc, ◌*◌, ◌/◌, ◌%◌, ◌^◌, ◌≤◌, ◌<◌, arith, ltb}
use Rattle.basics.proofs.Prelude.{ltb-true, ltb-false}
use lib.ListN.{get_or-eq_default}
use mir.Val.{bool_byte}
use Rattle.basics.proofs.Cases.{by_test, by_either, one_fails, true_or_false}
use Rattle.basics.proofs.Members.{Every, every_of}
use Rattle.register.proofs.Vocabulary.{Entry, Pair, WriteCounter, initial, stamp_bits, Client, set_limit}
use Rattle.register.proofs.Vocabulary.{is_reading, most_servers, is_server, formats, WellClient}
use Rattle.register.specs.declared.Phase.{Phase}
use Rattle.register.specs.declared.Phase.TheVariants.{Storing}
use Rattle.replies.specs.Replies.{note_word, pair_word, row, store_replies}
use Rattle.replies.proofs.Placing.{pair_word_lem}
use Rattle.replies.proofs.Steps.{bool_le}
use Rattle.replies.proofs.Soundness.{Sound}
use Rattle.client.specs.Sound.{stores}
use Rattle.state.specs.declared.Settings.{Settings}
use Rattle.register.specs.WellFormed.{WellSet}
use Rattle.state.specs.State.{settings_of}
use Rattle.state.proofs.Orders.{ordered_rising, place_every, every_join}
use Rattle.state.proofs.Tested.{server_place}
use Rattle.state.proofs.StoredClient.{stored_length, note_word_lem, size_word, ack_word, word_at}
use Rattle.state.proofs.StoredClient.{set_found}

not_storing : (phase : Phase) → stores phase ≡ false → (entry : Entry) (counter : WriteCounter) → phase
    ≡ Storing entry counter → ⊥
unfolding stores
not_storing phase h entry counter q = true_or_false true refl (ap stores (sym q) ∙ h)

note_most : (note : Option ℕ) → ((stamp : ℕ) → note ≡ Some stamp → stamp < 2 ^ stamp_bits)
    → note_word note ≤ 2 ^ stamp_bits
unfolding note_word
note_most None h = omega arith
note_most (Some stamp) h = h stamp refl

past_last : (l : List Pair) (k : ℕ) → length l ≤ k → pair_word l k ≡ 0
past_last l k h = pair_word_lem l k ∙ ap (λ (p : Pair). p.0) (get_or-eq_default l initial {n = k} h)

module _ (settings : Settings) (client : Client)
    (well : WellClient (settings_of settings) formats client) where
  abbrev reading : ℕ → Bool
  reading j = ltb j settings.n && is_reading client.phase

  abbrev storing : ℕ → Bool
  storing j = ltb j settings.n && stores client.phase

  not_read : (j : ℕ) → reading j ≡ false
      → is_server (settings_of settings) (suc j) && is_reading client.phase ≡ false
  not_read j e = rw (server_place settings j) e

  noted : (j : ℕ) → note_word (client.noted (suc j)) ≤ cond (reading j) (2 ^ stamp_bits) 0
  unfolding note_word
  noted j =
      by_test (reading j) (λ e. rw e (note_most (client.noted (suc j)) (well.noted (suc j))))
      (λ e. rw (e, well.noted_unused (suc j) (not_read j e)) (omega arith))

  set_size : (j : ℕ) → length (client.sets (suc j)) ≤ cond (reading j) set_limit 0
  set_size j =
      by_test (reading j) (λ e. rw e (well.sets (suc j)).few)
      (λ e. rw (e, well.sets_unused (suc j) (not_read j e)) (omega arith))

  no_ack_lem : (j : ℕ) → storing j ≡ false → client.acks (suc j) ≡ false
  no_ack_lem j e =
      by_either (one_fails (ltb j settings.n) (stores client.phase) e)
      (λ h. well.acks_unused (suc j) (server_place settings j ∙ h))
      (λ h. well.acks_idle (not_storing client.phase h) (suc j))

  ack : (j : ℕ) → bool_byte (client.acks (suc j)) ≤ cond (storing j) 1 0
  ack j =
      by_test (storing j) (λ e. rw e (bool_le (client.acks (suc j))))
      (λ e. rw (e, no_ack_lem j e) (omega arith))

  pub stored_sound : Sound settings.n (is_reading client.phase) (stores client.phase)
      (store_replies client)
  stored_sound =
      record {
        long = stored_length client;
        part = λ j less. record {
          noted = rw (note_word_lem client j less) (noted j);
          size = rw (size_word client j less) (set_size j);
          ack = rw (ack_word client j less) (ack j);
          rising =
              rw (set_found client j less (well.sets (suc j)).few)
              (ordered_rising (client.sets (suc j)) (well.sets (suc j)).ordered);
          zeros = λ k small past.
              word_at client j less k small
              ∙ past_last (client.sets (suc j)) k (rw (size_word client j less) at past);
        };
      }

  -- ---- 64 bits

  abbrev Small : ℕ → Type 0
  Small y = y < 2 ^ 64

  pair_small : (l : List Pair) (k : ℕ) → WellSet l → Small (pair_word l k)
  pair_small l k well_set =
      by_test (ltb k (length l))
      (λ e. rw (pair_word_lem l k)
      (place_every (λ p. Small p.0) initial l k (every_of (λ p. Small p.0) l well_set.pairs)
      (ltb-true k (length l) e)))
      (λ e. rw (past_last l k (ltb-false k (length l) e)) (omega arith))

  every_row : (g : ℕ → ℕ) (n : ℕ) → ((i : ℕ) → Small (g i)) → Every Small (row g n)
  unfolding row
  every_row g zero h = tt
  every_row g (suc n) h = (h 0, every_row (λ i. g (suc i)) n (λ i. h (suc i)))

  pub stored_small : Every (λ y. y < 2 ^ 64) (store_replies client)
  unfolding store_replies
  stored_small =
      let note : ℕ → ℕ = λ i. note_word (client.noted (suc i)) in
      let count : ℕ → ℕ = λ i. length (client.sets (suc i)) in
      let tick : ℕ → ℕ = λ i. bool_byte (client.acks (suc i)) in
      let pair : ℕ → ℕ = λ i. pair_word (client.sets (suc (i / set_limit))) (i % set_limit) in
      every_join Small 0 (row note most_servers ++ row count most_servers ++ row tick most_servers)
      (row pair (most_servers * set_limit))
      (every_join Small 0 (row note most_servers ++ row count most_servers) (row tick most_servers)
      (every_join Small 0 (row note most_servers) (row count most_servers) (every_row note most_servers
      (λ i. let h = note_most (client.noted (suc i)) (well.noted (suc i)) in omega arith))
      (every_row count most_servers (λ i. let h = (well.sets (suc i)).few in omega arith)))
      (every_row tick most_servers (λ i. let h = bool_le (client.acks (suc i)) in omega arith)))
      (every_row pair (most_servers * set_limit)
      (λ i. pair_small _ (i % set_limit) (well.sets (suc (i / set_limit)))))
