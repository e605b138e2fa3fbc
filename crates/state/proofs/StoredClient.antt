-- A client is found again in its phase, its read number and its stored replies.
--
-- Its noted timestamps, the sizes of its sets, its acknowledgements and the pairs of its sets are the four
-- rows of its replies. What a memory shows of a server is read from these rows; of what is no server it shows
-- nothing, and the client holds nothing. A well-formed phase is sound (`sound_phase`), so its numbers make it
-- again.
-- Assumes nothing.
use Rattle.basics.proofs.Prelude.{◌≡◌, refl, sym, ap, ◌∙◌, Bool, true, false, not, List, [], ◌++◌}
use Rattle.basics.proofs.Prelude.{append_assoc, append-nil, Option, None, Some, length, get_or, length-append}
use Rattle.basics.proofs.Prelude.{ℕ, suc, ◌+◌, ◌*◌, ◌/◌, ◌%◌, ◌^◌, ◌≤◌, ◌<◌, arith, eqb, ltb}
use Rattle.basics.proofs.Prelude.{ltb-false, lt-ltb}
use native.Mathlib.Nat.{add_assoc}
use lib.ListN.{get_or-append}
use lib.Seq.{ext_get_or}
use mir.Val.{bool_byte}
use Rattle.register.proofs.Vocabulary.{is_up_to, initial, Client, set_limit, formats, most_servers, WellPhase}
use Rattle.register.specs.declared.Phase.{Phase}
use Rattle.register.specs.declared.Phase.TheVariants.{Idle, Reading, ReadingForWrite, Storing}
use Rattle.basics.proofs.Cases.{both_of}
use Rattle.basics.proofs.UpTo.{over_range, by_places}
use Rattle.licence.specs.Entry.{is_licence}
use Rattle.message.specs.Pair.{counter_bits}
use Rattle.channel.proofs.Filled.{get_between}
use Rattle.replies.specs.Replies.{sizes_at, acks_at, pairs_at, note_of, note_word, pair_word, noted_in, set_in, ack_in}
use Rattle.replies.specs.Replies.{held, row, store_replies}
use Rattle.replies.proofs.Places.{noted_at, ack_at_lem, size_below, pair_at_lem}
use Rattle.replies.proofs.Placing.{pair_word_lem}
use Rattle.replies.proofs.Stores.{row_length, row_at}
use Rattle.client.specs.Sound.{is_sound_phase}

-- a number of a row that stands between others
at_row : (before behind : List ℕ) (g : ℕ → ℕ) (n i at : ℕ) → length before ≡ at → i < n
    → get_or (before ++ row g n ++ behind) (at + i) 0 ≡ g i
at_row before behind g n i at e less =
    get_between before at e (row g n) behind i (rw (row_length g n) less) ∙ row_at g n i less

pub sound_phase : (phase : Phase) → WellPhase formats phase → is_sound_phase phase ≡ true
unfolding is_sound_phase
sound_phase Idle h = refl
sound_phase Reading h = refl
sound_phase (ReadingForWrite entry) h = h
sound_phase (Storing entry counter) h =
    both_of (is_licence entry.0) (ltb counter.0 (2 ^ counter_bits)) h.0
    (lt-ltb counter.0 (2 ^ counter_bits) h.1)

-- what it holds is of servers 1 to 13, and no set is longer than its place
pub record Placed (client : Client) : Type 0 where
  pub few : (k : ℕ) → length (client.sets k) ≤ set_limit
  pub noted : (k : ℕ) → is_up_to most_servers k ≡ false → client.noted k ≡ None
  pub sets : (k : ℕ) → is_up_to most_servers k ≡ false → client.sets k ≡ []
  pub acks : (k : ℕ) → is_up_to most_servers k ≡ false → client.acks k ≡ false

note_found : (note : Option ℕ) → note_of (note_word note) ≡ note
unfolding note_of note_word
note_found None = refl
note_found (Some stamp) = refl

ack_found : (b : Bool) → not (eqb (bool_byte b) 0) ≡ b
ack_found true = refl
ack_found false = refl

module _ (client : Client) where
  -- the four rows of its replies
  abbrev notes : List ℕ
  notes = row (λ i. note_word (client.noted (suc i))) most_servers

  abbrev sizes : List ℕ
  sizes = row (λ i. length (client.sets (suc i))) most_servers

  abbrev ticks : List ℕ
  ticks = row (λ i. bool_byte (client.acks (suc i))) most_servers

  abbrev pairs : List ℕ
  pairs = row (λ i. pair_word (client.sets (suc (i / set_limit))) (i % set_limit)) (most_servers * set_limit)

  pub stored_length : length (store_replies client) ≡ pairs_at + most_servers * set_limit
  unfolding store_replies
  stored_length = simp (length-append, row_length)

  module _ (i : ℕ) (less : i < most_servers) where
    pub note_word_lem : get_or (store_replies client) i 0 ≡ note_word (client.noted (suc i))
    unfolding store_replies
    note_word_lem =
        rw (append_assoc (notes ++ sizes) ticks pairs, append_assoc notes sizes (ticks ++ pairs))
        (get_or-append notes (sizes ++ (ticks ++ pairs)) 0 i (rw row_length less)
        ∙ row_at _ most_servers i less)

    pub size_word : get_or (store_replies client) (sizes_at + i) 0 ≡ length (client.sets (suc i))
    unfolding store_replies
    size_word =
        rw (append_assoc (notes ++ sizes) ticks pairs)
        (at_row notes (ticks ++ pairs) (λ j. length (client.sets (suc j))) most_servers i sizes_at
        (row_length _ most_servers) less)

    pub ack_word : get_or (store_replies client) (acks_at + i) 0 ≡ bool_byte (client.acks (suc i))
    unfolding store_replies
    ack_word =
        at_row (notes ++ sizes) pairs (λ j. bool_byte (client.acks (suc j))) most_servers i acks_at
        (simp (length-append, row_length)) less

    pub word_at : (j : ℕ) → j < set_limit
        → get_or (store_replies client) (pairs_at + i * set_limit + j) 0 ≡ pair_word (client.sets (suc i)) j
    unfolding store_replies
    word_at j h =
        let q : (i * set_limit + j) / set_limit ≡ i = omega arith in
        let r : (i * set_limit + j) % set_limit ≡ j = omega arith in
        rw (add_assoc pairs_at (i * set_limit) j, ← append-nil (notes ++ sizes ++ ticks ++ pairs))
        (at_row (notes ++ sizes ++ ticks) []
        (λ n. pair_word (client.sets (suc (n / set_limit))) (n % set_limit)) (most_servers * set_limit)
        (i * set_limit + j) pairs_at (simp (length-append, row_length)) (omega arith)
        ∙ rw (q, r))

    noted_found : noted_in (store_replies client) (suc i) ≡ client.noted (suc i)
    noted_found =
        noted_at (store_replies client) i less ∙ ap note_of note_word_lem ∙ note_found (client.noted (suc i))

    acks_found : ack_in (store_replies client) (suc i) ≡ client.acks (suc i)
    acks_found =
        ack_at_lem (store_replies client) i less ∙ rw ack_word (ack_found (client.acks (suc i)))

    pub set_found : length (client.sets (suc i)) ≤ set_limit
        → set_in (store_replies client) (suc i) ≡ client.sets (suc i)
    set_found few =
        let size : length (set_in (store_replies client) (suc i)) ≡ length (client.sets (suc i)) =
        size_below (store_replies client) i stored_length less (rw size_word few) ∙ size_word in
        ext_get_or initial (set_in (store_replies client) (suc i)) (client.sets (suc i)) size
        (λ j h. pair_at_lem (store_replies client) i stored_length less j initial h
        ∙ ap (λ (n : ℕ). record { 0 = n }) (word_at j (omega arith) ∙ pair_word_lem (client.sets (suc i)) j))

  module _ (placed : Placed client) where
    over : (i : ℕ) → ltb i most_servers ≡ false → is_up_to most_servers (suc i) ≡ false
    over i h = let g = ltb-false i most_servers h in over_range most_servers (suc i) (omega arith)

    noted_is : noted_in (store_replies client) ≡ client.noted
    unfolding noted_in
    noted_is =
        by_places most_servers (noted_in (store_replies client)) client.noted (sym (placed.noted 0 refl))
        noted_found
        (λ i h. rw (h, placed.noted (suc i) (over i h)))

    sets_is : set_in (store_replies client) ≡ client.sets
    unfolding set_in
    sets_is =
        by_places most_servers (set_in (store_replies client)) client.sets (sym (placed.sets 0 refl))
        (λ i less. set_found i less (placed.few (suc i)))
        (λ i h. rw (h, placed.sets (suc i) (over i h)))

    acks_is : ack_in (store_replies client) ≡ client.acks
    unfolding ack_in
    acks_is =
        by_places most_servers (ack_in (store_replies client)) client.acks
        (sym (placed.acks 0 refl)) acks_found (λ i h. rw (h, placed.acks (suc i) (over i h)))

    pub held_client : held client.phase client.reads (store_replies client) ≡ client
    held_client =
        λ i. record {
          phase = client.phase;
          reads = client.reads;
          noted = noted_is i;
          sets = sets_is i;
          acks = acks_is i;
        }
