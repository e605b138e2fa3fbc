-- One turn of each loop over a set, on the rest of the set from place j on, and the end of each; and the four
-- places of a set, read without a loop.
-- Assumes nothing.
use Rattle.basics.proofs.Prelude.{◌≡◌, refl, ap, ◌∙◌, Bool, cond, ◌&&◌, ◌||◌, List, [], ◌∷◌}
use Rattle.basics.proofs.Prelude.{◌++◌, Option, length, take, drop, ℕ, zero, suc, ◌+◌, ◌≤◌, ◌<◌, add-one}
use Rattle.basics.proofs.Prelude.{arith, eqb, ltb}
use mathlib.Core.Bool.{and_assoc, and-true, or_assoc, or-false}
use lib.ListN.{drop_of_length-le}
use lib.Seq.{take-nil}
use mir.Val.{bool_byte}
use Rattle.register.proofs.Vocabulary.{count_below, Pair, has, higher, highest_of, all_pairs}
use Rattle.replies.specs.Replies.{pairs_of}
use Rattle.replies.specs.Sound.{is_rising}
use Rattle.replies.specs.Loops.{best_of}
-- ---- counting

pub use Rattle.basics.proofs.Counting.{bool_le}

pub count_step : (test : ℕ → Bool) (i count : ℕ) (b : Bool) → b ≡ test i → count ≡ count_below test i
    → count + bool_byte b ≡ count_below test (i + 1)
unfolding count_below
count_step test i count b q e = rw (add-one i, q, e)

pub count_end : (test : ℕ → Bool) (i n count : ℕ) → i ≤ n → n ≤ i → count ≡ count_below test i
    → count ≡ count_below test n
count_end test i n count most least e = let end : i ≡ n = omega arith in e ∙ ap (count_below test) end

-- tests that agree below n count the same
pub count_same : (p q : ℕ → Bool) (n : ℕ) → ((i : ℕ) → i < n → p i ≡ q i) → count_below p n ≡ count_below q n
unfolding count_below
count_same p q zero h = refl
count_same p q (suc n) h = rw (count_same p q n (λ i less. h i (omega arith)), h n (omega arith))

-- ---- the rest of a set from place j on, by its first pair

module _ (test : Pair → Bool) (pairs : List Pair) (best : Option Pair) (j : ℕ) (first : Pair)
    (e : drop j pairs ≡ first ∷ drop (suc j) pairs) where
  pub best_next : let behind = best_of test (drop (j + 1) pairs) best in
      best_of test (drop j pairs) best ≡ cond (test first) (higher first behind) behind
  unfolding best_of
  best_next = rw (add-one j, e)

-- ---- the end of a set

pub best_none : (test : Pair → Bool) (pairs : List Pair) (best : Option Pair) (j : ℕ) → j ≡ length pairs
    → best_of test (drop j pairs) best ≡ best
unfolding best_of
best_none test pairs best j h = rw (drop_of_length-le pairs {i = j} (omega arith))

-- ---- a set of at most four, place by place

-- the pairs of the first n of four numbers
abbrev pub of_four : ℕ → ℕ → ℕ → ℕ → ℕ → List Pair
of_four a b c d n = pairs_of (take n (a ∷ b ∷ c ∷ d ∷ []))

module _ (a b c d : ℕ) (pair : Pair) where
  -- a number stands at place j, and is the pair's
  abbrev is_at : ℕ → ℕ → ℕ → Bool
  is_at n j number = ltb j (length (of_four a b c d n)) && eqb pair.0 number

  pub has_four : (n : ℕ) → (is_at n 0 a || is_at n 1 b) || (is_at n 2 c || is_at n 3 d)
      ≡ has pair (of_four a b c d n)
  unfolding has
  has_four zero = refl
  has_four (suc zero) = simp or-false
  has_four (suc (suc zero)) = simp or-false
  has_four (suc (suc (suc zero))) = simp (or-false, or_assoc)
  has_four (suc (suc (suc (suc n)))) = rw (take-nil {A = ℕ} n) (simp (or-false, or_assoc))

module _ (a b c d : ℕ) where
  -- a number is below the one at place j, or there is none at place j
  abbrev is_before : ℕ → ℕ → ℕ → ℕ → Bool
  is_before n j number here = ltb (length (of_four a b c d n)) (suc j) || ltb number here

  pub rising_four : (n : ℕ) → (is_before n 1 a b && is_before n 2 b c) && is_before n 3 c d
      ≡ is_rising (of_four a b c d n)
  unfolding is_rising
  rising_four zero = refl
  rising_four (suc zero) = refl
  rising_four (suc (suc zero)) = simp and-true
  rising_four (suc (suc (suc zero))) = simp and-true
  rising_four (suc (suc (suc (suc n)))) = rw (take-nil {A = ℕ} n) (simp (and-true, and_assoc))

-- the choice among all sets, one set more at a time
pub best_append : (test : Pair → Bool) (pairs others : List Pair) → highest_of test (pairs ++ others)
    ≡ best_of test pairs (highest_of test others)
unfolding highest_of best_of
best_append test [] others = refl
best_append test (first ∷ rest) others = rw (best_append test rest others)

pub best_more : (test : Pair → Bool) (sets : ℕ → List Pair) (n : ℕ)
    → highest_of test (all_pairs sets (suc n)) ≡ best_of test (sets (suc n)) (highest_of test (all_pairs sets n))
unfolding all_pairs
best_more test sets n = best_append test (sets (suc n)) (all_pairs sets n)
