-- Adding a pair to a set, by its place: what the rule for dropping does, for every limit.
--
-- The pairs at the head of a set that are below a pair decide its place (`rank_of`). If that pair stands there
-- (`is_there`), nothing changes; otherwise it is put there (`insert_is`). A set within its limit then keeps
-- all (`add_room`), and one that is over it loses its first pair (`add_full`).
-- Assumes nothing.
use Rattle.basics.proofs.Prelude.{◌≡◌, refl, Bool, false, cond, not, ◌&&◌, List, [], ◌∷◌, length, get_or}
use Rattle.basics.proofs.Prelude.{take, drop}
use Rattle.basics.proofs.Prelude.{length-append, length-drop, length-take-le, ℕ, suc, ◌+◌, ◌≤◌, ◌<◌, arith}
use Rattle.basics.proofs.Prelude.{ltb, eqb-false, ne_eqb, le-leb, lt-leb, ltb-true, ltb-false, lt-ltb, le-ltb}
use Rattle.basics.proofs.Prelude.{sym, ap, ◌∙◌, leb, leb-true, leb-false}
use Prim.Native.Nat.compare
use Rattle.std.specs.Prelude.{Option, Some, None, unwrap_or}
use Rattle.std.specs.List.{position_or_len}
use Rattle.std.proofs.lemmas.List.Recursion.{is_position_or_len}
use Rattle.std.proofs.lemmas.List.Sums.{prefix_len-le-length}
use Rattle.basics.proofs.Cases.{by_test}
use Rattle.register.proofs.Vocabulary.{Pair, below, same, initial, insert, add}
use Rattle.replies.specs.Replies.{pairs_of}
use Rattle.replies.specs.Loops.{rank_of, placed_at}

pub rank_le : (pair : Pair) (pairs : List Pair) → rank_of pair pairs ≤ length pairs
unfolding rank_of
rank_le pair [] = omega arith
rank_le pair (other ∷ rest) =
    let ih = rank_le pair rest in
    by_test (below other pair) (λ e. rw e (omega arith)) (λ e. rw e (omega arith))

-- the first number that is not below the pair's stands at its place, or the pair's place is the end
pub rank_at : (pair : Pair) (numbers : List ℕ) {at : Option ℕ} {place : ℕ}
    → let first = position_or_len (leb pair.0) numbers in
    at ≡ cond (ltb first (length numbers)) (Some first) None → place ≡ unwrap_or at (length numbers)
    → place ≡ rank_of pair (pairs_of numbers)
unfolding rank_of
rank_at pair numbers found e =
    e ∙ ap (λ (at : Option ℕ). unwrap_or at (length numbers)) found
    ∙ by_test (ltb first (length numbers)) (λ t. rw t)
    (λ t. let past = ltb-false first (length numbers) t in
    let most = prefix_len-le-length (λ number. not (leb pair.0 number)) numbers in
    rw t (omega arith)) ∙ sym (same numbers)
  where
    first : ℕ
    first = position_or_len (leb pair.0) numbers

    same : (numbers : List ℕ) → rank_of pair (pairs_of numbers) ≡ position_or_len (leb pair.0) numbers
    same = is_position_or_len (λ list. rank_of pair (pairs_of list)) (leb pair.0) refl
        (λ number rest. by_test (leb pair.0 number)
        (λ t. let le = leb-true pair.0 number t in rw (t, le-ltb number pair.0 le))
        (λ t. let lt = leb-false pair.0 number t in rw (t, lt-ltb number pair.0 lt) (omega arith)))

-- the pair that stands at a pair's place is that pair
abbrev pub is_there : Pair → List Pair → Bool
is_there pair [] = false
is_there pair (other ∷ rest) = cond (below other pair) (is_there pair rest) (same pair other)

pub there_at : (pair : Pair) (pairs : List Pair) → is_there pair pairs
    ≡ ltb (rank_of pair pairs) (length pairs) && same pair (get_or pairs (rank_of pair pairs) initial)
unfolding rank_of
there_at pair [] = refl
there_at pair (other ∷ rest) =
    by_test (below other pair)
    (λ e. rw (e, there_at pair rest, compare.suc-suc (suc (rank_of pair rest)) (length rest)))
    (λ e. rw (e, lt-ltb 0 (suc (length rest)) (omega arith)))

pub insert_is : (pair : Pair) (pairs : List Pair)
    → insert pair pairs ≡ cond (is_there pair pairs) pairs (placed_at (rank_of pair pairs) pair pairs)
unfolding insert rank_of
insert_is pair [] = refl
insert_is pair (other ∷ rest) =
    by_test (below other pair) (λ e. let less = ltb-true other.0 pair.0 e in
    rw (
      e,
      ne_eqb pair.0 other.0 (λ q. omega arith),
      le-ltb pair.0 other.0 (omega arith),
      insert_is pair rest,
    ) (by_test (is_there pair rest) (λ t. rw t) (λ t. rw t)))
    (λ e. let le = ltb-false other.0 pair.0 e in
    by_test (same pair other) (λ q. rw (e, q)) (λ q. let ne = eqb-false pair.0 other.0 q in
    rw (e, q, lt-ltb pair.0 other.0 (omega arith))))

pub placed_length : (j : ℕ) (pair : Pair) (pairs : List Pair) → j ≤ length pairs
    → length (placed_at j pair pairs) ≡ length pairs + 1
placed_length j pair pairs h =
    omega (
      arith,
      length-append (take j pairs) (pair ∷ drop j pairs),
      length-take-le j pairs h,
      length-drop j pairs,
    )

-- ---- the rule for dropping

module _ (limit : ℕ) (pair : Pair) (pairs longer : List Pair) (e : insert pair pairs ≡ longer) where
  pub add_room : length longer ≤ limit → add limit pair pairs ≡ longer
  unfolding add
  add_room h = rw (e, le-leb (length longer) limit h)

  pub add_full : limit < length longer → add limit pair pairs ≡ drop 1 longer
  unfolding add
  add_full h = rw (e, lt-leb (length longer) limit h)
