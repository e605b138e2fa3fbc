-- What a sound memory says of each server's part, and that every change keeps it sound.
--
-- The tests are read as facts (`facts`) and made again from facts (`sound`). A change touches one server's
-- part, whose new numbers keep to their limits, and leaves the others as they were (`changed`): a noted
-- timestamp (`note_sound`), a set after the rule for dropping (`set_sound`), an acknowledgement
-- (`ack_sound`). The empty memory is sound in every phase (`empty_sound`).
-- Assumes nothing.
use Rattle.basics.proofs.Prelude.{◌≡◌, sym, ap, ◌∙◌, Bool, true, false, cond, ◌&&◌, List, [], ◌∷◌, length}
use Rattle.basics.proofs.Prelude.{length-drop, ℕ, suc, ◌+◌, ◌*◌, ◌^◌, ◌≤◌, ◌<◌, arith, eqb, leb, ltb}
use Rattle.basics.proofs.Prelude.{eqb-true, eqb-false, eq-eqb, leb-true, le-leb, ltb-false, lt-ltb, le-ltb}
use lib.ListN.{length-replicate, get_or-eq_default}
use lib.Seq.{get_or-set_same}
use Rattle.register.proofs.Vocabulary.{all_below, Pair, stamp_bits, initial, most_servers, set_limit, insert, add}
use Rattle.basics.proofs.Cases.{by_test, both, both_of}
use Rattle.basics.proofs.Tests.{each, all_of, below, below_of}
use Rattle.replies.specs.Replies.{replies_length, sizes_at, acks_at, pairs_at, note_at, size_at, ack_at}
use Rattle.replies.specs.Replies.{pair_at, set_in, put_note, put_ack, put_set, Padded}
use Rattle.replies.specs.Sound.{is_rising, is_past, is_padded, is_within, most_noted, is_sound_at, are_sound}
use Rattle.replies.proofs.Places.{set_at_lem, size_most}
use Rattle.replies.proofs.Placing.{pair_word_lem}
use Rattle.replies.proofs.Rising.{add_rising}
use Rattle.replies.proofs.Stores.{put_length, put_size, put_word}
use Rattle.replies.proofs.Views.{Same, SameSet, set_same, note_length, note_other, note_set}
use Rattle.replies.proofs.Views.{ack_length, ack_other, ack_set, set_here, set_front, set_elsewhere}
use Rattle.replies.proofs.Views.{zero_at, emptied, empty_sets}

-- ---- the tests as facts

pub record PartSound (reading storing : Bool) (replies : List ℕ) (i : ℕ) : Type 0 where
  pub noted : note_at replies i ≤ cond reading most_noted 0
  pub size : size_at replies i ≤ cond reading set_limit 0
  pub ack : ack_at replies i ≤ cond storing 1 0
  pub rising : is_rising (set_in replies (suc i)) ≡ true
  pub zeros : (j : ℕ) → j < set_limit → size_at replies i ≤ j → pair_at replies i j ≡ 0

pub record Sound (n : ℕ) (reading storing : Bool) (replies : List ℕ) : Type 0 where
  pub long : length replies ≡ replies_length
  pub part : (i : ℕ) → i < most_servers → PartSound (ltb i n && reading) (ltb i n && storing) replies i

module _ (replies : List ℕ) (i : ℕ) where
  -- the numbers behind the last pair of the set at place i are zero
  abbrev ZeroPast : Type 0
  ZeroPast = (j : ℕ) → j < set_limit → size_at replies i ≤ j → pair_at replies i j ≡ 0

  past_zero : is_padded replies i ≡ true → ZeroPast
  unfolding is_padded
  past_zero e j h past =
      let passed : is_past replies i j ≡ true = below (is_past replies i) set_limit e j h in
      eqb-true (pair_at replies i j) 0 (rw (le-ltb j (size_at replies i) past) at passed)

  zero_past : ZeroPast → is_padded replies i ≡ true
  unfolding is_padded
  zero_past h =
      below_of (is_past replies i) set_limit (λ j less. by_test (ltb j (size_at replies i)) (λ e. rw e)
      (λ e. rw (e, eq-eqb (pair_at replies i j) 0 (h j less (ltb-false j (size_at replies i) e)))))

  module _ (reading storing : Bool) where
    abbrev tests : List Bool
    tests =
        is_within reading most_noted (note_at replies i) ∷ is_within reading set_limit (size_at replies i)
        ∷ is_within storing 1 (ack_at replies i) ∷ is_rising (set_in replies (suc i)) ∷ is_padded replies i ∷ []

    part_facts : is_sound_at reading storing replies i ≡ true → PartSound reading storing replies i
    unfolding is_sound_at
    part_facts e =
        let passed = each tests e in
        record {
          noted = leb-true (note_at replies i) (cond reading most_noted 0) passed.0;
          size = leb-true (size_at replies i) (cond reading set_limit 0) passed.1.0;
          ack = leb-true (ack_at replies i) (cond storing 1 0) passed.1.1.0;
          rising = passed.1.1.1.0;
          zeros = past_zero passed.1.1.1.1.0;
        }

    part_test : PartSound reading storing replies i → is_sound_at reading storing replies i ≡ true
    unfolding is_sound_at
    part_test known =
        let noted = le-leb (note_at replies i) (cond reading most_noted 0) known.noted in
        let size = le-leb (size_at replies i) (cond reading set_limit 0) known.size in
        let ack = le-leb (ack_at replies i) (cond storing 1 0) known.ack in
        all_of tests (noted, (size, (ack, (known.rising, (zero_past known.zeros, tt)))))

module _ (n : ℕ) (reading storing : Bool) (replies : List ℕ) where
  abbrev test : ℕ → Bool
  test i = is_sound_at (ltb i n && reading) (ltb i n && storing) replies i

  pub facts : are_sound n reading storing replies ≡ true → Sound n reading storing replies
  unfolding are_sound
  facts e =
      let passed = both (eqb (length replies) replies_length) (all_below test most_servers) e in
      record {
        long = eqb-true (length replies) replies_length passed.0;
        part = λ i h. part_facts replies i (ltb i n && reading) (ltb i n && storing)
            (below test most_servers passed.1 i h);
      }

  pub sound : Sound n reading storing replies → are_sound n reading storing replies ≡ true
  unfolding are_sound
  sound known =
      both_of (eqb (length replies) replies_length) (all_below test most_servers)
      (eq-eqb (length replies) replies_length known.long) (below_of test most_servers
      (λ i h. part_test replies i (ltb i n && reading) (ltb i n && storing) (known.part i h)))

-- a limit that is used or not is at most the limit
pub most : (used : Bool) (limit number : ℕ) → number ≤ cond used limit 0 → number ≤ limit
most true limit number h = h
most false limit number h = omega arith

pub padded : (n : ℕ) (reading storing : Bool) (replies : List ℕ) → Sound n reading storing replies
    → (i : ℕ) → i < most_servers → Padded replies i
padded n reading storing replies known i h =
    record {
      size = most (ltb i n && reading) set_limit (size_at replies i) (known.part i h).size;
      zeros = (known.part i h).zeros;
    }

-- ---- a memory that has the numbers of another in one part, or in all but one

module _ (replies next : List ℕ) (long : length replies ≡ replies_length)
    (next_long : length next ≡ replies_length) where
  -- .. of the set at place i; its timestamp and its acknowledgement keep to their limits
  set_part : (reading storing : Bool) (i : ℕ) → i < most_servers
      → note_at next i ≤ cond reading most_noted 0 → ack_at next i ≤ cond storing 1 0
      → SameSet next replies i → PartSound reading storing replies i → PartSound reading storing next i
  set_part reading storing i ih noted ack same known =
      record {
        noted = noted;
        size = rw same.0 known.size;
        ack = ack;
        rising =
            rw (set_at_lem next i ih, set_same next replies i next_long long ih same, ← set_at_lem replies i ih)
            known.rising;
        zeros = λ j h past. same.1 j h ∙ known.zeros j h (rw same.0 at past);
      }

  -- .. in all parts but that at place i, which is sound
  changed : (n : ℕ) (reading storing : Bool) (i : ℕ) → Sound n reading storing replies
      → PartSound (ltb i n && reading) (ltb i n && storing) next i
      → ((k : ℕ) → k < most_servers → (i ≡ k → ⊥)
      → Same next replies k × Same next replies (acks_at + k) × SameSet next replies k)
      → Sound n reading storing next
  changed n reading storing i known part others =
      record {
        long = next_long;
        part = λ k h. by_test (eqb i k) (λ e. let same : i ≡ k = eqb-true i k e in rw (← same) part)
            (λ e. let same_part = others k h (eqb-false i k e) in
            set_part (ltb k n && reading) (ltb k n && storing) k h
            (rw same_part.0 (known.part k h).noted) (rw same_part.1 (known.part k h).ack)
            same_part.2 (known.part k h));
      }

-- ---- changes

module _ (n : ℕ) (replies : List ℕ) (i : ℕ) (inside : i < n) (ih : i < most_servers) where
  pub note_sound : (storing : Bool) (stamp : ℕ) → stamp < 2 ^ stamp_bits → Sound n true storing replies
      → Sound n true storing (put_note replies i stamp)
  note_sound storing stamp small known =
      let long = known.long in
      let next_long = note_length replies i stamp long ih in
      let ack : (k : ℕ) → Same (put_note replies i stamp) replies (acks_at + k) =
      λ k. note_other replies i stamp long ih (acks_at + k) (λ q. omega arith) in
      changed replies (put_note replies i stamp) long next_long n true storing i known
      (set_part replies (put_note replies i stamp) long next_long (ltb i n && true) (ltb i n && storing) i ih
      (rw (lt-ltb i n inside, get_or-set_same replies i (stamp + 1) 0 (omega arith)) (omega arith))
      (rw (ack i) (known.part i ih).ack) (note_set replies i stamp long ih i) (known.part i ih))
      (λ k h apart. (
        note_other replies i stamp long ih k (λ q. apart (sym q)),
        ack k,
        note_set replies i stamp long ih k,
      ))

  pub ack_sound : (reading : Bool) → Sound n reading true replies → Sound n reading true (put_ack replies i)
  ack_sound reading known =
      let long = known.long in
      let next_long = ack_length replies i long ih in
      let noted : (k : ℕ) → k < most_servers → Same (put_ack replies i) replies k =
      λ k h. ack_other replies i long ih k (λ q. omega arith) in
      changed replies (put_ack replies i) long next_long n reading true i known
      (set_part replies (put_ack replies i) long next_long (ltb i n && reading) (ltb i n && true) i ih
      (rw (noted i ih) (known.part i ih).noted)
      (rw (lt-ltb i n inside, get_or-set_same replies (acks_at + i) 1 0 (omega arith)) (omega arith))
      (ack_set replies i long ih i ih) (known.part i ih)) (λ k h apart. (
        noted k h,
        ack_other replies i long ih (acks_at + k) (λ q. apart (omega arith)),
        ack_set replies i long ih k h,
      ))

  -- a set in order, within its limit
  put_sound : (storing : Bool) (pairs : List Pair) → length pairs ≤ set_limit → is_rising pairs ≡ true
      → Sound n true storing replies → Sound n true storing (put_set replies i pairs)
  put_sound storing pairs small order known =
      let long = known.long in
      let size = put_size replies i pairs long ih in
      let front = set_front replies i pairs long ih small in
      let next_long = put_length replies i pairs long ih in
      changed replies (put_set replies i pairs) long next_long n true storing i known
      record {
        noted = rw (front i (omega arith) (λ q. omega arith)) (known.part i ih).noted;
        size = rw (lt-ltb i n inside, size) small;
        ack = rw (front (acks_at + i) (omega arith) (λ q. omega arith)) (known.part i ih).ack;
        rising = rw (set_here replies i pairs long ih small) order;
        zeros = λ j jh past. put_word replies i pairs long ih j jh ∙ pair_word_lem pairs j
            ∙ ap (λ (x : Pair). x.0) (get_or-eq_default pairs initial {n = j} (rw size at past));
      }
      (λ k h apart. (
        front k (omega arith) (λ q. omega arith),
        front (acks_at + k) (omega arith) (λ q. omega arith),
        set_elsewhere replies i pairs long ih small k apart h,
      ))

-- ---- the rule for dropping keeps a set within its limit

insert_length : (pair : Pair) (pairs : List Pair) → length (insert pair pairs) ≤ suc (length pairs)
unfolding insert
insert_length pair [] = omega arith
insert_length pair (other ∷ rest) =
    let ih = insert_length pair rest in
    by_test (Rattle.message.specs.Pair.same pair other) (λ e. rw e (omega arith))
    (λ e. rw e (by_test (Rattle.message.specs.Pair.below pair other) (λ b. rw b (omega arith))
    (λ b. rw b (omega arith))))

pub add_length : (limit : ℕ) (pair : Pair) (pairs : List Pair) → length pairs ≤ limit
    → length (add limit pair pairs) ≤ limit
unfolding add
add_length limit pair pairs h =
    by_test (leb (length (insert pair pairs)) limit)
    (λ e. rw e (leb-true (length (insert pair pairs)) limit e))
    (λ e. rw e (omega (arith, length-drop 1 (insert pair pairs), insert_length pair pairs)))

pub set_sound : (n : ℕ) (replies : List ℕ) (i : ℕ) → i < n → i < most_servers → (storing : Bool) (pair : Pair)
    → Sound n true storing replies
    → Sound n true storing (put_set replies i (add set_limit pair (set_in replies (suc i))))
set_sound n replies i inside ih storing pair known =
    let pairs = set_in replies (suc i) in
    put_sound n replies i inside ih storing (add set_limit pair pairs)
    (add_length set_limit pair pairs (size_most replies i known.long ih))
    (add_rising set_limit pair pairs (known.part i ih).rising) known

-- ---- the empty memory

pub empty_sound : (n : ℕ) (reading storing : Bool) → Sound n reading storing emptied
unfolding is_rising
empty_sound n reading storing =
    record {
      long = length-replicate {A = ℕ} replies_length 0;
      part = λ i h. record {
        noted = rw (zero_at replies_length i) (omega arith);
        size = rw (zero_at replies_length (sizes_at + i)) (omega arith);
        ack = rw (zero_at replies_length (acks_at + i)) (omega arith);
        rising = ap (λ (sets : ℕ → List Pair). is_rising (sets (suc i))) empty_sets;
        zeros = λ j jh past. zero_at replies_length (pairs_at + i * set_limit + j);
      };
    }
