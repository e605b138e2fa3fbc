-- Sets in strict order: adding a pair keeps the order.
--
-- A pair is put behind those below it and in front of those above it (`insert_rising`), and a list without
-- its first is in order too (`rest_rising`); so is a set after the rule for dropping, for every limit
-- (`add_rising`).
-- Assumes nothing.
use Rattle.basics.proofs.Prelude.{◌≡◌, refl, true, ◌&&◌, List, [], ◌∷◌, length, drop, ℕ, arith}
use Rattle.basics.proofs.Prelude.{leb, eqb-false, ltb-false, lt-ltb}
use Rattle.basics.proofs.Cases.{by_test, both, both_of}
use Rattle.register.proofs.Vocabulary.{Pair, below, same, insert, add}
use Rattle.replies.specs.Sound.{is_first, is_rising}

pub rest_rising : (pair : Pair) (rest : List Pair) → is_rising (pair ∷ rest) ≡ true → is_rising rest ≡ true
unfolding is_rising
rest_rising pair rest e = (both (is_first pair rest) (is_rising rest) e).1

pub drop_rising : (pairs : List Pair) → is_rising pairs ≡ true → is_rising (drop 1 pairs) ≡ true
drop_rising [] e = e
drop_rising (pair ∷ rest) e = rest_rising pair rest e

-- what is below the first of a set and below a pair is below the first of the set with that pair
first_insert : (lower pair : Pair) (pairs : List Pair) → below lower pair ≡ true → is_first lower pairs ≡ true
    → is_first lower (insert pair pairs) ≡ true
unfolding insert
first_insert lower pair [] e h = e
first_insert lower pair (other ∷ rest) e h =
    by_test (same pair other) (λ s. rw s h)
    (λ s. rw s (by_test (below pair other) (λ b. rw b e) (λ b. rw b h)))

pub insert_rising : (pair : Pair) (pairs : List Pair) → is_rising pairs ≡ true
    → is_rising (insert pair pairs) ≡ true
unfolding is_rising insert
insert_rising pair [] e = refl
insert_rising pair (other ∷ rest) e =
    by_test (same pair other) (λ s. rw s e) (λ s. rw s (by_test (below pair other)
    (λ b. rw b (both_of (below pair other) (is_first other rest && is_rising rest) b e))
    (λ b. rw b
    (let ne = eqb-false pair.0 other.0 s in
    let le = ltb-false pair.0 other.0 b in
    let above : below other pair ≡ true = lt-ltb other.0 pair.0 (omega arith) in
    let parts = both (is_first other rest) (is_rising rest) e in
    both_of (is_first other (insert pair rest)) (is_rising (insert pair rest))
    (first_insert other pair rest above parts.0) (insert_rising pair rest parts.1)))))

pub add_rising : (limit : ℕ) (pair : Pair) (pairs : List Pair) → is_rising pairs ≡ true
    → is_rising (add limit pair pairs) ≡ true
unfolding add
add_rising limit pair pairs e =
    by_test (leb (length (insert pair pairs)) limit) (λ t. rw t (insert_rising pair pairs e))
    (λ t. rw t (drop_rising (insert pair pairs) (insert_rising pair pairs e)))
