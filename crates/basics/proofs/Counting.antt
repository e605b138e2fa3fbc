-- Counting: the laws of `count_below`, and the pigeonhole that quorums rest on.
--
-- A loop counts the answers of a closure, one more each turn (`counts_none`, `counts_more`).
-- More passes for a weaker test (`count_mono`); all of them (`count_all`); a count
-- splits by a second test (`count_split`); two counts that add to more than n have a common number
-- (`common`), and a count above 0 has one that passes (`found`); more passes in a longer range
-- (`count_longer`).
-- Assumes nothing.
use Rattle.basics.proofs.Prelude.{◌≡◌, refl, Bool, true, false, not, ◌&&◌, ℕ, zero, suc, ◌+◌, ◌≤◌, ◌<◌}
use Rattle.basics.proofs.Prelude.{le_refl, not-suc-le-zero, add-one, arith}
use mir.Val.{bool_byte}
use Rattle.basics.specs.Counting.{count_below, Counts}
use Rattle.basics.proofs.Cases.{by_test}
use Rattle.basics.proofs.Ranges.{from_on}

pub count_mono : (test other : ℕ → Bool) (n : ℕ) → ((k : ℕ) → k < n → test k ≡ true → other k ≡ true)
    → count_below test n ≤ count_below other n
unfolding count_below
count_mono test other zero h = le_refl _
count_mono test other (suc n) h =
    let ih = count_mono test other n (λ k a. h k (omega arith)) in
    by_test (test n) (λ e. rw (e, h n (omega arith) e) (omega arith))
    (λ e. rw e (by_test (other n) (λ e'. rw e' (omega arith)) (λ e'. rw e' (omega arith))))

pub bool_le : (b : Bool) → bool_byte b ≤ 1
bool_le true = omega arith
bool_le false = omega arith

-- a loop that adds the answers of a closure has counted those before number i
pub counts_none : (Gives : ℕ → Bool → Type 0) → Counts Gives 0 0
unfolding count_below
counts_none Gives test calls = refl

pub counts_more : (Gives : ℕ → Bool → Type 0) (i count : ℕ) (answer : Bool) → Gives i answer
    → Counts Gives i count → Counts Gives (i + 1) (count + bool_byte answer)
unfolding count_below
counts_more Gives i count answer gives so test calls =
    rw (add-one i, so test (λ j b less. calls j b (omega arith)), calls i answer (omega arith) gives)

pub count_all : (n : ℕ) → count_below (λ k. true) n ≡ n
unfolding count_below
count_all zero = refl
count_all (suc n) = let ih = count_all n in omega arith

pub count_split : (test other : ℕ → Bool) (n : ℕ)
    → count_below test n ≤ count_below (λ k. test k && not (other k)) n + count_below other n
unfolding count_below
count_split test other zero = le_refl _
count_split test other (suc n) =
    let ih = count_split test other n in
    by_test (test n)
    (λ e. by_test (other n) (λ e'. rw (e, e') (omega arith)) (λ e'. rw (e, e') (omega arith)))
    (λ e. by_test (other n) (λ e'. rw (e, e') (omega arith)) (λ e'. rw (e, e') (omega arith)))

-- a number below n that passes both tests
pub record Common (test other : ℕ → Bool) (n : ℕ) : Type 0 where
  pub at : ℕ
  pub high : at < n
  pub left : test at ≡ true
  pub right : other at ≡ true

pub common : (test other : ℕ → Bool) (n : ℕ) → n < count_below test n + count_below other n
    → Common test other n
unfolding count_below
common test other zero h = absurd (not-suc-le-zero h)
common test other (suc n) h =
    by_test (test n)
    (λ e. by_test (other n) (λ e'. record { at = n; high = omega arith; left = e; right = e' })
    (λ e'. up (common test other n (let h' = rw (e, e') at h in omega arith))))
    (λ e. up (common test other n (by_test (other n) (λ e'. let h' = rw (e, e') at h in omega arith)
    (λ e'. let h' = rw (e, e') at h in omega arith))))
  where
    up : Common test other n → Common test other (suc n)
    up c = record { at = c.at; high = omega arith; left = c.left; right = c.right }

-- a number below n that passes
pub found : (test : ℕ → Bool) (n : ℕ) → 1 ≤ count_below test n → Common test test n
found test n h =
    let c = common test (λ k. true) n (rw (count_all n) (omega arith)) in
    record { at = c.at; high = c.high; left = c.left; right = c.left }

-- a longer range has no fewer that pass
pub count_longer : (test : ℕ → Bool) (n m : ℕ) → n ≤ m → count_below test n ≤ count_below test m
unfolding count_below
count_longer test n =
    from_on (λ m. count_below test n ≤ count_below test m) n (le_refl _) (λ m h ih. omega arith)
