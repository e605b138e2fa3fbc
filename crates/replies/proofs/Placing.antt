-- The numbers of a set in memory, before and after a pair is put at its place.
--
-- The four numbers of a padded set are those of its pairs and then zeros (`word_is`), so reading them at,
-- before or behind the new pair's place gives the numbers of the set with that pair (`widened_is`); and
-- storing a set's own numbers changes nothing (`put_same`).
-- Assumes nothing.
use Rattle.basics.proofs.Prelude.{◌≡◌, refl, sym, ap, ◌∙◌, List, [], ◌∷◌, length, get_or, set, take, drop}
use Rattle.basics.proofs.Prelude.{length-take-le, ℕ, zero, suc, ◌+◌, ◌-◌, ◌*◌, ◌≤◌, ◌<◌, add-zero, add-one}
use Rattle.basics.proofs.Prelude.{arith, eqb, ltb, eqb-true, eqb-false, ltb-true, ltb-false}
use lib.ListN.{get_or-append, get_or-eq_default}
use lib.Seq.{sets, set-get_or, get_or-take, get_or-drop, get_or_at, get_or-append-add}
use Rattle.basics.proofs.Cases.{by_test}
use Rattle.register.proofs.Vocabulary.{Pair, initial, most_servers, set_limit}
use Rattle.replies.specs.Replies.{replies_length, sizes_at, pairs_at, size_at, pair_at, set_in, row, pair_word}
use Rattle.replies.specs.Replies.{put_set, Padded}
use Rattle.replies.specs.Loops.{placed_at, widened_by}
use Rattle.replies.proofs.Places.{size_below, pair_at_lem}

-- a set's numbers are its pairs', and zero behind its last
pub pair_word_lem : (pairs : List Pair) (k : ℕ) → pair_word pairs k ≡ (get_or pairs k initial).0
unfolding pair_word
pair_word_lem [] zero = refl
pair_word_lem [] (suc k) = refl
pair_word_lem (pair ∷ rest) zero = refl
pair_word_lem (pair ∷ rest) (suc k) = pair_word_lem rest k

pub word_drop : (out : ℕ) (pairs : List Pair) (k : ℕ) → pair_word (drop out pairs) k ≡ pair_word pairs (out + k)
word_drop out pairs k =
    pair_word_lem (drop out pairs) k ∙ ap (λ (x : Pair). x.0) (get_or-drop out pairs k initial)
    ∙ sym (pair_word_lem pairs (out + k))

module _ (replies : List ℕ) (i : ℕ) (long : length replies ≡ replies_length) (ih : i < most_servers)
    (pad : Padded replies i) where
  abbrev at : ℕ
  at = pairs_at + i * set_limit

  abbrev pairs : List Pair
  pairs = set_in replies (suc i)

  pub word_is : (k : ℕ) → k < set_limit → pair_word pairs k ≡ pair_at replies i k
  word_is k h =
      let number = size_at replies i in
      let size = size_below replies i long ih pad.size in
      pair_word_lem pairs k ∙ by_test (ltb k number)
      (λ e. ap (λ (x : Pair). x.0)
      (pair_at_lem replies i long ih k initial (omega (arith, ltb-true k number e, size))))
      (λ e. let past : number ≤ k = ltb-false k number e in
      ap (λ (x : Pair). x.0) (get_or-eq_default pairs initial {n = k} (omega (arith, size)))
      ∙ sym (pad.zeros k h past))

  module _ (j : ℕ) (pair : Pair) (inside : j ≤ length pairs) where
    front : length (take j pairs) ≡ j
    front = length-take-le j pairs inside

    -- the pairs of the set with the pair put at place j: before it, it, and behind it the pair before
    before : (k : ℕ) → k < j → get_or (placed_at j pair pairs) k initial ≡ get_or pairs k initial
    before k h =
        get_or-append (take j pairs) (pair ∷ drop j pairs) initial k (omega (arith, front))
        ∙ get_or-take j pairs k initial h

    behind : (k : ℕ) → j < k → get_or (placed_at j pair pairs) k initial ≡ get_or pairs (k - 1) initial
    behind k h =
        let q = k - 1 - j in
        let hk : k ≡ length (take j pairs) + suc q = omega (arith, front) in
        let hq : j + q ≡ k - 1 = omega arith in
        ap (λ (x : ℕ). get_or (placed_at j pair pairs) x initial) hk
        ∙ get_or-append-add (take j pairs) (pair ∷ drop j pairs) (suc q) initial
        ∙ get_or-drop j pairs q initial ∙ ap (λ (x : ℕ). get_or pairs x initial) hq

    -- a number of the memory is that of the pair put at k
    moved : (k m : ℕ) → m < set_limit → get_or (placed_at j pair pairs) k initial ≡ get_or pairs m initial
        → pair_at replies i m ≡ pair_word (placed_at j pair pairs) k
    moved k m h e =
        sym (word_is m h) ∙ pair_word_lem pairs m ∙ ap (λ (x : Pair). x.0) (sym e)
        ∙ sym (pair_word_lem (placed_at j pair pairs) k)

    pub widened_is : (k : ℕ) → k ≤ set_limit → j ≤ set_limit → widened_by replies at j pair.0 k
        ≡ pair_word (placed_at j pair pairs) k
    widened_is k h jh =
        by_test (ltb k j) (λ e. let less = ltb-true k j e in rw e (moved k k (omega arith) (before k less)))
        (λ e. let more = ltb-false k j e in
        by_test (eqb k j)
        (λ e'. rw (e, e') (sym (pair_word_lem (placed_at j pair pairs) k ∙ ap (λ (x : Pair). x.0)
        (get_or_at (take j pairs) pair (drop j pairs) initial k (front ∙ sym (eqb-true k j e'))))))
        (λ e'. let other = eqb-false k j e' in
        let past : j < k = omega arith in
        let step : at + k - 1 ≡ at + (k - 1) = omega arith in
        rw (e, e', step) (moved k (k - 1) (omega arith) (behind k past))))

-- ---- five stores

-- the four numbers from at on
four_stores : (memory : List ℕ) (at a b c d : ℕ)
    → set (set (set (set memory at a) (at + 1) b) (at + 2) c) (at + 3) d ≡ sets memory at (a ∷ b ∷ c ∷ d ∷ [])
four_stores memory at a b c d =
    let e1 : at + 1 ≡ suc at = add-one at in
    let e2 : at + 2 ≡ suc (suc at) = omega arith in
    let e3 : at + 3 ≡ suc (suc (suc at)) = omega arith in
    rw (e1, e2, e3)

pub put_as_stores : (replies : List ℕ) (i : ℕ) (pairs : List Pair) → put_set replies i pairs
    ≡ set (set (set (set (set replies (sizes_at + i) (length pairs))
    (pairs_at + i * set_limit) (pair_word pairs 0))
    (pairs_at + i * set_limit + 1) (pair_word pairs 1))
    (pairs_at + i * set_limit + 2) (pair_word pairs 2))
    (pairs_at + i * set_limit + 3) (pair_word pairs 3)
unfolding put_set row
put_as_stores replies i pairs =
    sym (four_stores (set replies (sizes_at + i) (length pairs)) (pairs_at + i * set_limit) (pair_word pairs 0)
    (pair_word pairs 1) (pair_word pairs 2) (pair_word pairs 3))

-- a set stored over itself
pub put_same : (replies : List ℕ) (i : ℕ) → length replies ≡ replies_length → i < most_servers
    → Padded replies i
    → put_set replies i (set_in replies (suc i)) ≡ replies
put_same replies i long ih pad =
    let at = pairs_at + i * set_limit in
    let w = word_is replies i long ih pad in
    put_as_stores replies i (set_in replies (suc i))
    ∙ rw (
      size_below replies i long ih pad.size,
      w 0 (omega arith) ∙ ap (λ (x : ℕ). get_or replies x 0) (add-zero at),
      w 1 (omega arith),
      w 2 (omega arith),
      w 3 (omega arith),
      set-get_or replies (sizes_at + i) 0,
      set-get_or replies at 0,
      set-get_or replies (at + 1) 0,
      set-get_or replies (at + 2) 0,
      set-get_or replies (at + 3) 0,
    )
