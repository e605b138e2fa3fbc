-- What a memory shows after one server's part is replaced: the same, but for that server.
--
-- What is shown goes by place (`by_number`): the same where the places are the same (`shown_same`), one update
-- where one place changed (`shown_update`), nothing where all places show nothing (`shown_none`). So a store
-- to one server's part is one update of what is shown (`note_noted`, `set_sets`, `ack_acks`), and the empty
-- memory shows nothing.
-- Assumes nothing.
use Rattle.basics.proofs.Prelude.{◌≡◌, refl, sym, ap, ◌∙◌, true, false, not, List, [], None, Some, length}
use Rattle.basics.proofs.Prelude.{get_or, take, replicate, length-set, ℕ, zero, suc, ◌+◌, ◌*◌, ◌≤◌, ◌<◌}
use Rattle.basics.proofs.Prelude.{add-one, arith, eqb, ltb, ltb-true, lt-ltb}
use lib.Seq.{ext_get_or, get_or-set_same, get_or-set_other}
use Rattle.register.proofs.Vocabulary.{update, Pair, initial, most_servers, set_limit}
use Rattle.basics.proofs.Cases.{by_test}
use Rattle.basics.proofs.Update.{update_at}
use Rattle.replies.specs.Replies.{replies_length, sizes_at, acks_at, pairs_at, note_at, size_at, ack_at}
use Rattle.replies.specs.Replies.{pair_at}
use Rattle.replies.specs.Replies.{note_of, four_at, pairs_of, set_at, by_number, noted_in, set_in, ack_in}
use Rattle.replies.specs.Replies.{put_note, put_ack, put_set}
use Rattle.replies.proofs.Choosing.{either_way}
use Rattle.replies.proofs.Places.{four_length, four_at_lem, set_at_lem, size_below, pair_at_lem}
use Rattle.replies.proofs.Placing.{pair_word_lem}
use Rattle.replies.proofs.Stores.{put_length, put_size, put_word, put_other}

-- ---- what is shown by place

module _ {A : Type 0} (nothing : A) where
  pub shown_same : (old new : ℕ → A) → ((i : ℕ) → i < most_servers → old i ≡ new i)
      → by_number nothing old ≡ by_number nothing new
  shown_same old new same = λ q k. each k q
    where
      each : (k : ℕ) → by_number nothing old k ≡ by_number nothing new k
      each zero = refl
      each (suc i) = by_test (ltb i most_servers) (λ e. rw (e, same i (ltb-true i most_servers e))) (λ e. rw e)

  pub shown_none : (old : ℕ → A) → ((i : ℕ) → i < most_servers → old i ≡ nothing)
      → by_number nothing old ≡ (λ k. nothing)
  shown_none old empty = shown_same old (λ i. nothing) empty ∙ (λ q k. each k q)
    where
      each : (k : ℕ) → by_number nothing (λ i. nothing) k ≡ nothing
      each zero = refl
      each (suc i) = either_way (ltb i most_servers) nothing nothing refl

  pub shown_update : (old new : ℕ → A) (i : ℕ) (value : A) → i < most_servers → new i ≡ value
      → ((k : ℕ) → k < most_servers → (i ≡ k → ⊥) → new k ≡ old k)
      → by_number nothing new ≡ update (by_number nothing old) (suc i) value
  shown_update old new i value ih here there = λ q k. each k q
    where
      other : (k : ℕ) → (suc i ≡ k → ⊥) → by_number nothing new k ≡ by_number nothing old k
      other zero apart = refl
      other (suc k) apart =
          by_test (ltb k most_servers)
          (λ e. rw (e, there k (ltb-true k most_servers e) (λ q. apart (ap suc q)))) (λ e. rw e)

      each : (k : ℕ) → by_number nothing new k ≡ update (by_number nothing old) (suc i) value k
      each k =
          update_at (λ (x : A). by_number nothing new k ≡ x) (by_number nothing old) (suc i) k value
          (λ e. rw (← e, lt-ltb i most_servers ih) here) (other k)

-- ---- the same numbers

abbrev pub Same : List ℕ → List ℕ → ℕ → Type 0
Same replies other k = get_or replies k 0 ≡ get_or other k 0

-- .. of the set at place i
abbrev pub SameSet : List ℕ → List ℕ → ℕ → Type 0
SameSet replies other i =
    (size_at replies i ≡ size_at other i) × ((j : ℕ) → j < set_limit → pair_at replies i j ≡ pair_at other i j)

pub set_same : (replies other : List ℕ) (i : ℕ) → length replies ≡ replies_length
    → length other ≡ replies_length → i < most_servers → SameSet replies other i
    → set_at replies i ≡ set_at other i
set_same replies other i long other_long ih same =
    let four : four_at replies i ≡ four_at other i =
    ext_get_or 0 (four_at replies i) (four_at other i)
    (four_length replies i long ih ∙ sym (four_length other i other_long ih))
    (λ j less. let h : j < set_limit = omega (arith, four_length replies i long ih) in
    four_at_lem replies i long ih j h ∙ same.1 j h ∙ sym (four_at_lem other i other_long ih j h)) in
    rw (same.0, four)

-- ---- a noted timestamp

module _ (replies : List ℕ) (i stamp : ℕ) (long : length replies ≡ replies_length) (ih : i < most_servers) where
  pub note_length : length (put_note replies i stamp) ≡ replies_length
  note_length = length-set replies i (stamp + 1) ∙ long

  pub note_other : (k : ℕ) → (k ≡ i → ⊥) → Same (put_note replies i stamp) replies k
  note_other k ne = get_or-set_other replies i k (stamp + 1) 0 ne

  pub note_set : (k : ℕ) → SameSet (put_note replies i stamp) replies k
  note_set k = (
    note_other (sizes_at + k) (λ e. omega arith),
    λ j h. note_other (pairs_at + k * set_limit + j) (λ e. omega arith),
  )

  pub note_noted : noted_in (put_note replies i stamp) ≡ update (noted_in replies) (suc i) (Some stamp)
  unfolding noted_in note_of
  note_noted =
      shown_update None (λ k. note_of (note_at replies k)) (λ k. note_of (note_at (put_note replies i stamp) k)) i
      (Some stamp) ih (rw (get_or-set_same replies i (stamp + 1) 0 (omega arith), add-one stamp))
      (λ k h apart. ap note_of (note_other k (λ e. apart (sym e))))

  pub note_sets : set_in (put_note replies i stamp) ≡ set_in replies
  unfolding set_in
  note_sets =
      shown_same [] (set_at (put_note replies i stamp)) (set_at replies)
      (λ k h. set_same (put_note replies i stamp) replies k note_length long h (note_set k))

  pub note_acks : ack_in (put_note replies i stamp) ≡ ack_in replies
  unfolding ack_in
  note_acks =
      shown_same false (λ k. not (eqb (ack_at (put_note replies i stamp) k) 0))
      (λ k. not (eqb (ack_at replies k) 0))
      (λ k h. rw (note_other (acks_at + k) (λ e. omega arith)))

-- ---- an acknowledgement

module _ (replies : List ℕ) (i : ℕ) (long : length replies ≡ replies_length) (ih : i < most_servers) where
  pub ack_length : length (put_ack replies i) ≡ replies_length
  ack_length = length-set replies (acks_at + i) 1 ∙ long

  pub ack_other : (k : ℕ) → (k ≡ acks_at + i → ⊥) → Same (put_ack replies i) replies k
  ack_other k ne = get_or-set_other replies (acks_at + i) k 1 0 ne

  pub ack_set : (k : ℕ) → k < most_servers → SameSet (put_ack replies i) replies k
  ack_set k h = (
    ack_other (sizes_at + k) (λ e. omega arith),
    λ j jh. ack_other (pairs_at + k * set_limit + j) (λ e. omega arith),
  )

  pub ack_acks : ack_in (put_ack replies i) ≡ update (ack_in replies) (suc i) true
  unfolding ack_in
  ack_acks =
      shown_update false (λ k. not (eqb (ack_at replies k) 0))
      (λ k. not (eqb (ack_at (put_ack replies i) k) 0)) i true ih
      (rw (get_or-set_same replies (acks_at + i) 1 0 (omega arith)))
      (λ k h apart. rw (ack_other (acks_at + k) (λ e. apart (omega arith))))

  pub ack_noted : noted_in (put_ack replies i) ≡ noted_in replies
  unfolding noted_in
  ack_noted =
      shown_same None (λ k. note_of (note_at (put_ack replies i) k)) (λ k. note_of (note_at replies k))
      (λ k h. ap note_of (ack_other k (λ e. omega arith)))

  pub ack_sets : set_in (put_ack replies i) ≡ set_in replies
  unfolding set_in
  ack_sets =
      shown_same [] (set_at (put_ack replies i)) (set_at replies)
      (λ k h. set_same (put_ack replies i) replies k ack_length long h (ack_set k h))

-- ---- a set

module _ (replies : List ℕ) (i : ℕ) (pairs : List Pair) (long : length replies ≡ replies_length)
    (ih : i < most_servers) (most : length pairs ≤ set_limit) where
  abbrev stored : List ℕ
  stored = put_set replies i pairs

  pub set_here : set_in stored (suc i) ≡ pairs
  set_here =
      let stored_long = put_length replies i pairs long ih in
      let size = put_size replies i pairs long ih in
      let same : length (set_in stored (suc i)) ≡ length pairs =
      size_below stored i stored_long ih (omega (arith, size)) ∙ size in
      ext_get_or initial (set_in stored (suc i)) pairs same
      (λ j h. pair_at_lem stored i stored_long ih j initial h ∙ (λ q. record {
        0 = (put_word replies i pairs long ih j (omega (arith, same)) ∙ pair_word_lem pairs j) q;
      }))

  -- a number in front of the pairs, but for the size
  pub set_front : (k : ℕ) → k < pairs_at → (k ≡ sizes_at + i → ⊥) → Same stored replies k
  set_front k h apart = put_other replies i pairs long ih k apart (λ j jh e. omega arith)

  pub set_elsewhere : (k : ℕ) → (i ≡ k → ⊥) → k < most_servers → SameSet stored replies k
  set_elsewhere k apart h = (
    set_front (sizes_at + k) (omega arith) (λ e. apart (omega arith)),
    λ j jh. put_other replies i pairs long ih (pairs_at + k * set_limit + j) (λ e. omega arith)
        (λ j' jh' e. apart (omega arith)),
  )

  pub set_sets : set_in stored ≡ update (set_in replies) (suc i) pairs
  unfolding set_in
  set_sets =
      shown_update [] (set_at replies) (set_at stored) i pairs ih (sym (set_at_lem stored i ih) ∙ set_here)
      (λ k h apart. set_same stored replies k (put_length replies i pairs long ih) long h
      (set_elsewhere k apart h))

  pub set_noted : noted_in stored ≡ noted_in replies
  unfolding noted_in
  set_noted =
      shown_same None (λ k. note_of (note_at stored k)) (λ k. note_of (note_at replies k))
      (λ k h. ap note_of (set_front k (omega arith) (λ e. omega arith)))

  pub set_acks : ack_in stored ≡ ack_in replies
  unfolding ack_in
  set_acks =
      shown_same false (λ k. not (eqb (ack_at stored k) 0)) (λ k. not (eqb (ack_at replies k) 0))
      (λ k h. rw (set_front (acks_at + k) (omega arith) (λ e. omega arith)))

-- ---- a memory whose numbers are zero shows nothing

module _ (replies : List ℕ) where
  pub zero_noted : ((i : ℕ) → i < most_servers → note_at replies i ≡ 0) → noted_in replies ≡ (λ k. None)
  unfolding noted_in note_of
  zero_noted zeros = shown_none None (λ i. note_of (note_at replies i)) (λ i h. ap note_of (zeros i h))

  pub zero_sets : ((i : ℕ) → i < most_servers → size_at replies i ≡ 0) → set_in replies ≡ (λ k. [])
  unfolding set_in
  zero_sets zeros =
      shown_none [] (set_at replies)
      (λ i h. ap (λ (size : ℕ). pairs_of (take size (four_at replies i))) (zeros i h))

  pub zero_acks : ((i : ℕ) → i < most_servers → ack_at replies i ≡ 0) → ack_in replies ≡ (λ k. false)
  unfolding ack_in
  zero_acks zeros = shown_none false (λ i. not (eqb (ack_at replies i) 0)) (λ i h. rw (zeros i h))

pub zero_at : (n k : ℕ) → ◌≡◌ {A = ℕ} (get_or (replicate n 0) k 0) 0
zero_at zero zero = refl
zero_at zero (suc k) = refl
zero_at (suc n) zero = refl
zero_at (suc n) (suc k) = zero_at n k

abbrev pub emptied : List ℕ
emptied = replicate replies_length 0

pub empty_noted : noted_in emptied ≡ (λ k. None)
empty_noted = zero_noted emptied (λ i h. zero_at replies_length i)

pub empty_sets : set_in emptied ≡ (λ k. [])
empty_sets = zero_sets emptied (λ i h. zero_at replies_length (sizes_at + i))

pub empty_acks : ack_in emptied ≡ (λ k. false)
empty_acks = zero_acks emptied (λ i h. zero_at replies_length (acks_at + i))
