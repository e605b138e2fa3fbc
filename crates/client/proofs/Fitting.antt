-- A chosen pair has 64 bits where the pairs of all sets do.
-- Assumes nothing.
use Rattle.basics.proofs.Prelude.{◌≡◌, Bool, List, [], ◌∷◌, ◌++◌, Option, None, Some, length, get_or, take}
use Rattle.basics.proofs.Prelude.{drop, ℕ, zero, suc, ◌+◌, ◌*◌, ◌^◌, ◌<◌, arith, leb, ltb}
use lib.Seq.{get_or-take, get_or-drop}
use Rattle.register.proofs.Vocabulary.{update, Pair, pair_bits, below, same, insert, add, most_servers, counted}
use Rattle.register.proofs.Vocabulary.{enough, set_limit, is_noted, higher, highest_of, all_pairs, counts, chosen}
use Rattle.register.proofs.Vocabulary.{with_pair, with_info}
use Rattle.basics.proofs.Cases.{by_test}
use Rattle.basics.proofs.Update.{update_at}
use Rattle.register.specs.Client as model
use Rattle.replies.specs.Replies.{sizes_at, pairs_at, pairs_of, four_at, set_in}
use Rattle.client.specs.declared.Client.{Client}
use Rattle.client.specs.State.{view}

-- the numbers of a memory are words
abbrev pub Words : List ℕ → Type 0
Words replies = (i : ℕ) → get_or replies i 0 < 2 ^ 64

-- every pair of a list has 64 bits
abbrev pub AllFit : List Pair → Type 0
AllFit [] = Unit {0}
AllFit (pair ∷ rest) = (pair.0 < 2 ^ pair_bits) × AllFit rest

abbrev pub SetsFit : model.Client → Type 0
SetsFit self = (k : ℕ) → AllFit (self.sets k)

abbrev Fits : Option Pair → Type 0
Fits None = Unit {0}
Fits (Some pair) = pair.0 < 2 ^ pair_bits

-- ---- what a memory of words shows

pairs_fit : (numbers : List ℕ) → Words numbers → AllFit (pairs_of numbers)
pairs_fit [] words = tt
pairs_fit (number ∷ numbers) words = (words 0, pairs_fit numbers (λ i. words (suc i)))

take_words : (n : ℕ) (l : List ℕ) → Words l → Words (take n l)
take_words n l words i =
    by_test (ltb i n) (λ e. rw (get_or-take n l i 0 (borrow.Author.Tests.ltb-true i n e)) (words i))
    (λ e. rw (lib.ListN.get_or-eq_default (take n l) 0 {n = i}
    (let g = borrow.Author.Tests.ltb-false i n e in
    omega (arith, lib.ListN.length-take n l, native.Mathlib.Nat.min-le_left n (length l)))) (omega arith))

pub drop_words : (n : ℕ) (l : List ℕ) → Words l → Words (drop n l)
drop_words n l words i = rw (get_or-drop n l i 0) (words (n + i))

pub shown_fit : (client : Client) (replies : List ℕ) → Words replies → SetsFit (view client replies)
unfolding set_in
shown_fit client replies words zero = tt
shown_fit client replies words (suc i) =
    let size = get_or replies (sizes_at + i) 0 in
    let at = pairs_at + i * set_limit in
    by_test (ltb i most_servers)
    (λ e. rw e (pairs_fit (take size (four_at replies i)) (take_words size (four_at replies i)
    (take_words set_limit (drop at replies) (drop_words at replies words)))))
    (λ e. rw e tt)

-- ---- adding a pair

insert_fits : (pair : Pair) (pairs : List Pair) → pair.0 < 2 ^ pair_bits → AllFit pairs
    → AllFit (insert pair pairs)
unfolding insert
insert_fits pair [] h a = (h, tt)
insert_fits pair (other ∷ rest) h a =
    by_test (same pair other) (λ e. rw e a) (λ e. rw e (by_test (below pair other) (λ b. rw b (h, a))
    (λ b. rw b (a.0, insert_fits pair rest h a.1))))

drop_fits : (pairs : List Pair) → AllFit pairs → AllFit (drop 1 pairs)
drop_fits [] a = tt
drop_fits (pair ∷ rest) a = a.1

add_fits : (limit : ℕ) (pair : Pair) (pairs : List Pair) → pair.0 < 2 ^ pair_bits → AllFit pairs
    → AllFit (add limit pair pairs)
unfolding add
add_fits limit pair pairs h a =
    by_test (leb (length (insert pair pairs)) limit) (λ e. rw e (insert_fits pair pairs h a))
    (λ e. rw e (drop_fits (insert pair pairs) (insert_fits pair pairs h a)))

module _ (self : model.Client) (k : ℕ) (pair : Pair) (h : pair.0 < 2 ^ pair_bits) (a : SetsFit self) where
  set_fits : (j : ℕ) → AllFit (update self.sets k (add set_limit pair (self.sets k)) j)
  set_fits j =
      update_at AllFit self.sets k j (add set_limit pair (self.sets k))
      (λ e. add_fits set_limit pair (self.sets k) h (a k)) (λ e. a j)

  pub pair_fits : SetsFit (with_pair self k pair)
  unfolding with_pair
  pair_fits = set_fits

  pub info_fits : SetsFit (with_info self k pair)
  unfolding with_info
  info_fits = set_fits

-- ---- choosing one

append_fits : (pairs others : List Pair) → AllFit pairs → AllFit others → AllFit (pairs ++ others)
append_fits [] others a b = b
append_fits (pair ∷ rest) others a b = (a.0, append_fits rest others a.1 b)

all_fit : (sets : ℕ → List Pair) (n : ℕ) → ((k : ℕ) → AllFit (sets k)) → AllFit (all_pairs sets n)
unfolding all_pairs
all_fit sets zero a = tt
all_fit sets (suc n) a = append_fits (sets (suc n)) (all_pairs sets n) (a (suc n)) (all_fit sets n a)

higher_fits : (pair : Pair) (best : Option Pair) → pair.0 < 2 ^ pair_bits → Fits best
    → Fits (higher pair best)
unfolding higher
higher_fits pair None h g = h
higher_fits pair (Some other) h g = by_test (below pair other) (λ e. rw e g) (λ e. rw e h)

highest_fits : (test : Pair → Bool) (pairs : List Pair) → AllFit pairs → Fits (highest_of test pairs)
unfolding highest_of
highest_fits test [] a = tt
highest_fits test (pair ∷ rest) a =
    let others = highest_fits test rest a.1 in
    by_test (test pair) (λ e. rw e (higher_fits pair (highest_of test rest) a.0 others)) (λ e. rw e others)

pub chosen_fits : (n f d : ℕ) (self : model.Client) (pair : Pair) → SetsFit self
    → chosen n f d self ≡ Some pair → pair.0 < 2 ^ pair_bits
unfolding chosen
chosen_fits n f d self pair a e =
    let fits : Fits (chosen n f d self) =
    by_test (enough n f (counted (λ k. is_noted (self.noted k)) n))
    (λ t. rw t (highest_fits (counts n f d self) (all_pairs self.sets n) (all_fit self.sets n a)))
    (λ t. rw t tt) in
    rw e at fits
