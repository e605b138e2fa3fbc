-- Sets as bits: read back from their bits, and the set of a test.
--
-- A set below 2 ^ k is the sum of its bits (`set_back`): its remainder by 2 ^ (k + 1) is its bit k above its
-- remainder by 2 ^ k. A bit of the set of a test is the test's answer (`set_of_lem`).
-- Assumes nothing.
use Rattle.basics.proofs.Prelude.{◌≡◌, refl, ap, ◌∙◌, Bool, true, false, ℕ, zero, suc, ◌+◌, ◌-◌, ◌*◌}
use Rattle.basics.proofs.Prelude.{◌/◌, ◌%◌, ◌^◌, ◌≤◌, ◌<◌, not-suc-le-zero, arith, eqb, eqb-true}
use Rattle.basics.proofs.Prelude.{eqb-false}
use native.Mathlib.Nat.{mod-lt, mod-eq_of_lt, mul_assoc, div-eq_of_lt, pow-succ'}
use native.Mathlib.Nat.{mul-add-div_right, mul-add-mod_self_right}
use lib.Pow.{pow_pos, pow-add, pow_mono, mod-pow-add, high}
use mir.Val.{bool_byte}
use Rattle.basics.specs.BitSets.{contains, set_of}
use Rattle.basics.proofs.Cases.{by_test}

-- ---- reading back

bit_back : (x : ℕ) → x < 2 → bool_byte (eqb x 1) ≡ x
bit_back zero h = refl
bit_back (suc zero) h = refl
bit_back (suc (suc x)) h = let z : ⊥ = omega arith in absurd z

rest_back : (set k : ℕ) → set_of (contains set) k ≡ set % 2 ^ k
unfolding set_of contains
rest_back set zero = omega arith
rest_back set (suc k) =
    let e : suc k ≡ 1 + k = omega arith in
    rw (
      rest_back set k,
      bit_back (set / 2 ^ k % 2) (mod-lt (set / 2 ^ k) (omega arith)),
      e,
      mod-pow-add set 1 k,
    ) (omega arith)

pub set_back : (set k : ℕ) → set < 2 ^ k → set_of (contains set) k ≡ set
set_back set k h = rest_back set k ∙ mod-eq_of_lt h

-- ---- the set of a test

pub set_lt : (test : ℕ → Bool) (k : ℕ) → set_of test k < 2 ^ k
unfolding set_of
set_lt test zero = omega arith
set_lt test (suc k) =
    let ih = set_lt test k in
    rw (pow-succ' 2 k) (by_test (test (suc k)) (λ e. rw e (omega arith)) (λ e. rw e (omega arith)))

bit_below : (b : Bool) → bool_byte b % 2 ≡ bool_byte b
bit_below true = refl
bit_below false = refl

bit_of : (test : ℕ → Bool) (k i : ℕ) → i < k → set_of test k / 2 ^ i % 2 ≡ bool_byte (test (suc i))
unfolding set_of
bit_of test zero i h = absurd (not-suc-le-zero h)
bit_of test (suc k) i h =
    let b = bool_byte (test (suc k)) in
    let m = set_of test k in
    let swap : m + b * 2 ^ k ≡ b * 2 ^ k + m = omega arith in
    by_test (eqb i k) (λ e. let q : i ≡ k = eqb-true i k e in
    rw (q, swap, high b k (set_lt test k)) (bit_below (test (suc k)))) (λ e. let q = eqb-false i k e in
    let j = k - suc i in
    let split : 2 ^ k ≡ 2 ^ j * 2 * 2 ^ i =
    ap (λ (x : ℕ). 2 ^ x) (parts k i (omega arith)) ∙ pow-add 2 (j + 1) i
    ∙ ap (λ (x : ℕ). x * 2 ^ i) (pow-add 2 j 1) in
    let above : b * 2 ^ k ≡ b * 2 ^ j * 2 * 2 ^ i = rw split (simp mul_assoc) in
    rw (
      swap,
      above,
      mul-add-div_right (pow_pos i) (b * 2 ^ j * 2) m,
      mul-add-mod_self_right (b * 2 ^ j) 2 (m / 2 ^ i),
    ) (bit_of test k i (omega arith)))
  where
    parts : (k i : ℕ) → i < k → k ≡ k - suc i + 1 + i
    parts k i h = omega arith

pub set_of_lem : (test : ℕ → Bool) (k i : ℕ) → i < k → contains (set_of test k) (suc i) ≡ test (suc i)
unfolding contains
set_of_lem test k i h = rw (bit_of test k i h) (is_one (test (suc i)))
  where
    is_one : (b : Bool) → eqb (bool_byte b) 1 ≡ b
    is_one true = refl
    is_one false = refl

-- no number above k is in a set below 2 ^ k
pub set_above : (set k i : ℕ) → set < 2 ^ k → k ≤ i → contains set (suc i) ≡ false
unfolding contains
set_above set k i h more =
    let higher : 2 ^ k ≤ 2 ^ i = pow_mono {i = k} {j = i} more in
    rw (div-eq_of_lt {n = set} {m = 2 ^ i} (omega arith))
