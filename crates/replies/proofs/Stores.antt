-- What stands in a memory after one server's part is replaced.
--
-- A store changes one number (`lib.Seq`), and so a run of stores changes those of its places (`sets_inside`)
-- and no other (`sets_other`). A set's five stores change its size and its four numbers (`put_size`,
-- `put_word`) and no other (`put_other`).
-- Assumes nothing.
use Rattle.basics.proofs.Prelude.{◌≡◌, refl, ap, ◌∙◌, List, [], ◌∷◌, ◌++◌, length, get_or, set, drop}
use Rattle.basics.proofs.Prelude.{length-set, ℕ, zero, suc, ◌+◌, ◌*◌, ◌≤◌, ◌<◌, not-suc-le-zero, arith}
use native.Mathlib.Nat.{le_of_suc-le-suc}
use lib.Seq.{sets, length-sets, get_or-set_same, get_or-set_other}
use Rattle.register.proofs.Vocabulary.{Pair, most_servers, set_limit}
use Rattle.replies.specs.Replies.{replies_length, sizes_at, pairs_at, size_at, pair_at, row, pair_word}
use Rattle.replies.specs.Replies.{put_set}

-- ---- rows

pub row_length : (value : ℕ → ℕ) (n : ℕ) → length (row value n) ≡ n
unfolding row
row_length value zero = refl
row_length value (suc n) = ap suc (row_length (λ i. value (suc i)) n)

pub row_at : (value : ℕ → ℕ) (n i : ℕ) → i < n → get_or (row value n) i 0 ≡ value i
unfolding row
row_at value zero i h = absurd (not-suc-le-zero h)
row_at value (suc n) zero h = refl
row_at value (suc n) (suc i) h = row_at (λ i. value (suc i)) n i (le_of_suc-le-suc h)

-- a row that agrees with the head of a list is that head
pub row_is : (value : ℕ → ℕ) (n : ℕ) (memory : List ℕ) → n ≤ length memory
    → ((i : ℕ) → i < n → value i ≡ get_or memory i 0) → row value n ++ drop n memory ≡ memory
unfolding row
row_is value zero memory h e = refl
row_is value (suc n) [] h e = absurd (not-suc-le-zero h)
row_is value (suc n) (number ∷ rest) h e =
    rw (
      e 0 (omega arith),
      row_is (λ i. value (suc i)) n rest (le_of_suc-le-suc h) (λ i less. e (suc i) (omega arith)),
    )

-- ---- a run of stores

pub sets_other : (memory : List ℕ) (at : ℕ) (values : List ℕ) (k : ℕ)
    → ((j : ℕ) → j < length values → k ≡ at + j → ⊥) → get_or (sets memory at values) k 0 ≡ get_or memory k 0
sets_other memory at [] k apart = refl
sets_other memory at (value ∷ rest) k apart =
    sets_other (set memory at value) (suc at) rest k (λ j h e. apart (suc j) (omega arith) (omega arith))
    ∙ get_or-set_other memory at k value 0 (λ e. apart 0 (omega arith) (omega arith))

pub sets_inside : (memory : List ℕ) (at : ℕ) (values : List ℕ) → at + length values ≤ length memory
    → (j : ℕ) → j < length values → get_or (sets memory at values) (at + j) 0 ≡ get_or values j 0
sets_inside memory at [] fits j h = absurd (not-suc-le-zero h)
sets_inside memory at (value ∷ rest) fits zero h =
    let e : at + 0 ≡ at = omega arith in
    rw e (sets_other (set memory at value) (suc at) rest at (λ j less q. omega arith)
    ∙ get_or-set_same memory at value 0 (omega arith))
sets_inside memory at (value ∷ rest) fits (suc j) h =
    let e : at + suc j ≡ suc at + j = omega arith in
    rw e (sets_inside (set memory at value) (suc at) rest (omega (arith, length-set memory at value)) j
    (le_of_suc-le-suc h))

-- ---- a set

module _ (replies : List ℕ) (i : ℕ) (pairs : List Pair) (long : length replies ≡ replies_length)
    (ih : i < most_servers) where
  abbrev at : ℕ
  at = pairs_at + i * set_limit

  abbrev sized : List ℕ
  sized = set replies (sizes_at + i) (length pairs)

  four : length (row (pair_word pairs) set_limit) ≡ set_limit
  four = row_length (pair_word pairs) set_limit

  pub put_length : length (put_set replies i pairs) ≡ replies_length
  unfolding put_set
  put_length =
      length-sets sized at (row (pair_word pairs) set_limit) ∙ length-set replies (sizes_at + i) (length pairs)
      ∙ long

  pub put_size : size_at (put_set replies i pairs) i ≡ length pairs
  unfolding put_set
  put_size =
      sets_other sized at (row (pair_word pairs) set_limit) (sizes_at + i) (λ j h e. omega arith)
      ∙ get_or-set_same replies (sizes_at + i) (length pairs) 0 (omega arith)

  pub put_word : (j : ℕ) → j < set_limit → pair_at (put_set replies i pairs) i j ≡ pair_word pairs j
  unfolding put_set
  put_word j h =
      sets_inside sized at (row (pair_word pairs) set_limit)
      (omega (arith, four, length-set replies (sizes_at + i) (length pairs))) j (omega (arith, four))
      ∙ row_at (pair_word pairs) set_limit j h

  pub put_other : (k : ℕ) → (k ≡ sizes_at + i → ⊥) → ((j : ℕ) → j < set_limit → k ≡ at + j → ⊥)
      → get_or (put_set replies i pairs) k 0 ≡ get_or replies k 0
  unfolding put_set
  put_other k size apart =
      sets_other sized at (row (pair_word pairs) set_limit) k (λ j h e. apart j (omega (arith, four)) e)
      ∙ get_or-set_other replies (sizes_at + i) k (length pairs) 0 size
