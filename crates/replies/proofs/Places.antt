-- What a memory holds at a place.
--
-- A place of a server is there, so each of the three readings is its number's (`noted_at`, `set_at_lem`,
-- `ack_at_lem`). A set's size is the number that stands for it, or four where that is more (`size_below`,
-- `size_full`), and its pairs are the numbers in order (`pair_at_lem`, `numbers_at`, `set_four`, `set_read`).
-- Assumes nothing.
use Rattle.basics.proofs.Prelude.{◌≡◌, refl, sym, ap, ◌∙◌, not, List, [], ◌∷◌, ◌++◌, append-nil, length}
use Rattle.basics.proofs.Prelude.{get_or}
use Rattle.basics.proofs.Prelude.{take, drop, length-drop, length-take-le, ℕ, zero, suc, ◌+◌, ◌*◌, ◌≤◌, ◌<◌}
use Rattle.basics.proofs.Prelude.{not-suc-le-zero, add-zero, add-one, arith, eqb, leb, ne_eqb, lt-ltb}
use Rattle.basics.proofs.Prelude.{leb-true, leb-false}
use Rattle.basics.proofs.Cases.{by_test}
use Rattle.std.proofs.lemmas.List.{take-take}
use Prim.Native.Nat.compare
use native.Mathlib.Nat.{le_of_suc-le-suc}
use lib.ListN.{drop_of_length-le}
use lib.Seq.{take_all, get_or-take, get_or-drop, drop-cons}
use Rattle.register.proofs.Vocabulary.{Pair, initial, most_servers, is_noted, is_at_most, set_limit}
use Rattle.replies.specs.Replies.{replies_length, pairs_at, note_at, size_at, ack_at, pair_at}
use Rattle.replies.specs.Replies.{note_of, pairs_of, four_at, set_at, noted_in, set_in, ack_in, row}
use Rattle.replies.proofs.Steps.{of_four}
use Rattle.replies.proofs.Stores.{row_is}

-- ---- the three readings

module _ (replies : List ℕ) (i : ℕ) (ih : i < most_servers) where
  pub noted_at : noted_in replies (suc i) ≡ note_of (note_at replies i)
  unfolding noted_in
  noted_at = rw (lt-ltb i most_servers ih)

  pub set_at_lem : set_in replies (suc i) ≡ set_at replies i
  unfolding set_in
  set_at_lem = rw (lt-ltb i most_servers ih)

  pub ack_at_lem : ack_in replies (suc i) ≡ not (eqb (ack_at replies i) 0)
  unfolding ack_in
  ack_at_lem = rw (lt-ltb i most_servers ih)

-- a timestamp is noted where its number is not zero
pub noted_used : (number : ℕ) → is_noted (note_of number) ≡ not (eqb number 0)
unfolding is_noted note_of
noted_used zero = refl
noted_used (suc stamp) = rw (ne_eqb (suc stamp) 0 (λ e. omega arith))

pub at_most_used : (number stamp : ℕ) → (number ≡ 0 → ⊥) → is_at_most stamp (note_of number)
    ≡ leb number (stamp + 1)
unfolding is_at_most note_of
at_most_used zero stamp h = absurd (h refl)
at_most_used (suc noted) stamp h = rw (add-one stamp, compare.suc-suc noted stamp)

-- ---- the pairs of a set

pub pairs_length : (numbers : List ℕ) → length (pairs_of numbers) ≡ length numbers
pairs_length [] = refl
pairs_length (number ∷ numbers) = ap suc (pairs_length numbers)

pub pairs_at_lem : (numbers : List ℕ) (j : ℕ) (otherwise : Pair) → j < length numbers
    → get_or (pairs_of numbers) j otherwise ≡ record { 0 = get_or numbers j 0 }
pairs_at_lem [] j otherwise h = absurd (not-suc-le-zero h)
pairs_at_lem (number ∷ numbers) zero otherwise h = refl
pairs_at_lem (number ∷ numbers) (suc j) otherwise h = pairs_at_lem numbers j otherwise (le_of_suc-le-suc h)

-- the pairs from place j on begin with the one at j
pub rest_at : (numbers : List ℕ) (j : ℕ) → j < length numbers
    → drop j (pairs_of numbers) ≡ record { 0 = get_or numbers j 0 } ∷ drop (suc j) (pairs_of numbers)
rest_at numbers j h =
    drop-cons (pairs_of numbers) j initial (omega (arith, pairs_length numbers))
    ∙ ap (λ (pair : Pair). pair ∷ drop (suc j) (pairs_of numbers)) (pairs_at_lem numbers j initial h)

module _ (replies : List ℕ) (i : ℕ) (long : length replies ≡ replies_length) (ih : i < most_servers) where
  abbrev four : List ℕ
  four = four_at replies i

  abbrev size : ℕ
  size = size_at replies i

  abbrev pairs : List Pair
  pairs = set_in replies (suc i)

  pub four_length : length four ≡ set_limit
  four_length =
      let at = pairs_at + i * set_limit in
      length-take-le set_limit (drop at replies) (omega (arith, length-drop at replies))

  set_length : length pairs ≡ length (take size four)
  set_length = rw (set_at_lem replies i ih) (pairs_length (take size four))

  pub size_below : size ≤ set_limit → length pairs ≡ size
  size_below h = set_length ∙ length-take-le size four (omega (arith, four_length))

  pub size_full : set_limit ≤ size → length pairs ≡ set_limit
  size_full h = set_length ∙ ap length (take_all size four (omega (arith, four_length))) ∙ four_length

  -- as many numbers as the set has pairs
  pub numbers_at : (count width : ℕ) → count ≡ length pairs → width ≡ count
      → pairs_of (take width (drop (pairs_at + i * set_limit) replies)) ≡ pairs
  numbers_at count width e same =
      let numbers = drop (pairs_at + i * set_limit) replies in
      by_test (leb size set_limit)
      (λ t. let few = leb-true size set_limit t in
      rw (same ∙ e ∙ size_below few, ← take-take size set_limit numbers few) (sym (set_at_lem replies i ih)))
      (λ t. let many = leb-false size set_limit t in
      rw (same ∙ e ∙ size_full (omega arith))
      (ap pairs_of (sym (take_all size four (omega (arith, four_length)))) ∙ sym (set_at_lem replies i ih)))

  pub size_most : length pairs ≤ set_limit
  size_most =
      omega (
        arith,
        set_length,
        lib.ListN.length-take size four,
        four_length,
        native.Mathlib.Nat.min-le_right size (length four),
      )

  pub size_most_read : length pairs ≤ size
  size_most_read =
      omega (
        arith,
        set_length,
        lib.ListN.length-take size four,
        native.Mathlib.Nat.min-le_left size (length four),
      )

  pub four_at_lem : (j : ℕ) → j < set_limit → get_or four j 0 ≡ pair_at replies i j
  four_at_lem j h =
      let at = pairs_at + i * set_limit in
      get_or-take set_limit (drop at replies) j 0 h ∙ get_or-drop at replies j 0

  pub pair_at_lem : (j : ℕ) (otherwise : Pair) → j < length pairs
      → get_or pairs j otherwise ≡ record { 0 = pair_at replies i j }
  pair_at_lem j otherwise h =
      let inside : j < length (take size four) = omega (arith, set_length) in
      let word : get_or (take size four) j 0 ≡ pair_at replies i j =
      get_or-take size four j 0 (omega (arith, size_most_read)) ∙ four_at_lem j (omega (arith, size_most)) in
      rw (set_at_lem replies i ih) (pairs_at_lem (take size four) j otherwise inside ∙ (λ e. record { 0 = word e }))

  -- the set by its four numbers
  pub set_four : (numbers : List ℕ) → numbers ≡ four
      → pairs
      ≡ of_four (get_or numbers 0 0) (get_or numbers 1 0) (get_or numbers 2 0) (get_or numbers 3 0) size
  unfolding row
  set_four numbers e =
      let number : ℕ → ℕ = λ j. get_or numbers j 0 in
      let long : length numbers ≡ set_limit = ap length e ∙ four_length in
      let whole : row number set_limit ++ drop set_limit numbers ≡ numbers =
      row_is number set_limit numbers (omega arith) (λ j h. refl) in
      let none = drop_of_length-le numbers {i = set_limit} (omega arith) in
      let all = rw (none, append-nil (row number set_limit)) at whole in
      set_at_lem replies i ih ∙ ap (λ (list : List ℕ). pairs_of (take size list)) (sym (all ∙ e))

  -- number j of them
  pub number_at : (numbers : List ℕ) → numbers ≡ four → (j : ℕ) → j < set_limit
      → get_or numbers j 0 ≡ pair_at replies i j
  number_at numbers e j h = ap (λ (list : List ℕ). get_or list j 0) e ∙ four_at_lem j h

  -- the set by the numbers as they are read one by one
  pub set_read : pairs
      ≡ of_four (get_or replies (pairs_at + i * set_limit) 0) (pair_at replies i 1) (pair_at replies i 2)
      (pair_at replies i 3) size
  set_read =
      let number = number_at four refl in
      set_four four refl
      ∙ rw (
        number 0 (omega arith),
        number 1 (omega arith),
        number 2 (omega arith),
        number 3 (omega arith),
        add-zero (pairs_at + i * set_limit),
      )
