-- The numbers from 1 to n: none for 0, and one more for n + 1. The test of them as two bounds, and back; what
-- holds at a number that is one of them, and at another. And the place of a number, which is one less.
-- Assumes nothing.
use Rattle.basics.proofs.Prelude.{◌≡◌, refl, Bool, true, false, cond, ◌&&◌, ◌||◌, ℕ, zero, suc, ◌-◌}
use Rattle.basics.proofs.Prelude.{◌≤◌, ◌<◌, arith, eqb, leb, ltb, eqb-true, eqb-false, leb-true}
use Rattle.basics.proofs.Prelude.{leb-false, le-leb, lt-leb, ltb-true}
use mathlib.Core.Path.{fun_ext}
use lib.Dec.{eqb-suc-suc}
use Rattle.basics.specs.Tests.{is_up_to}
use Rattle.basics.proofs.Cases.{by_test, both, both_of}

-- a conjunction whose second part fails
pub and-false : (a b : Bool) → b ≡ false → a && b ≡ false
and-false true b h = h
and-false false b h = refl

-- a test that cannot pass
pub never : (b : Bool) → (b ≡ true → ⊥) → b ≡ false
never b h = by_test b (λ e. absurd (h e)) (λ e. e)

pub in_range_lem : (n k : ℕ) → is_up_to n k ≡ true → (1 ≤ k) × (k ≤ n)
in_range_lem n k h = let b = both (leb 1 k) (leb k n) h in (leb-true 1 k b.0, leb-true k n b.1)

pub of_range : (n k : ℕ) → 1 ≤ k → k ≤ n → is_up_to n k ≡ true
of_range n k a b = both_of (leb 1 k) (leb k n) (le-leb 1 k a) (le-leb k n b)

pub over_range : (n k : ℕ) → n < k → is_up_to n k ≡ false
over_range n k h = never (is_up_to n k) (λ e. let r = in_range_lem n k e in omega arith)

pub out_of_range : (n i : ℕ) → is_up_to n (suc i) ≡ false → n ≤ i
out_of_range n i e =
    let over : n < suc i = leb-false (suc i) n (rw (le-leb 1 (suc i) (omega arith)) at e) in omega arith

pub range_none : (k : ℕ) → is_up_to 0 k ≡ false
range_none zero = refl
range_none (suc k) = over_range 0 (suc k) (omega arith)

pub range_more : (n k : ℕ) → is_up_to (suc n) k ≡ eqb (suc n) k || is_up_to n k
range_more n k =
    by_test (eqb (suc n) k) (λ e. let q : suc n ≡ k = eqb-true (suc n) k e in
    rw (e, of_range (suc n) k (omega arith) (omega arith))) (λ e. let q = eqb-false (suc n) k e in
    by_test (leb k n) (λ h. let g = leb-true k n h in rw (e, h, le-leb k (suc n) (omega arith)))
    (λ h. let g = leb-false k n h in rw (e, h, lt-leb k (suc n) (above g q))))
  where
    above : {n k : ℕ} → suc n ≤ k → (suc n ≡ k → ⊥) → suc (suc n) ≤ k
    above g q = omega arith

module _ {A : Type 0} (P : A → Type 0) where
  -- one of two, by a test
  pub pick : (b : Bool) (x y : A) → (b ≡ true → P x) → (b ≡ false → P y) → P (cond b x y)
  pick true x y f g = f refl
  pick false x y f g = g refl

  pub at_place : (n k : ℕ) (x y : A) → (1 ≤ k → k ≤ n → P x) → (is_up_to n k ≡ false → P y)
      → P (cond (is_up_to n k) x y)
  at_place n k x y f g = pick (is_up_to n k) x y (λ e. let r = in_range_lem n k e in f r.0 r.1) g

-- two functions, at 0, at the numbers from 1 to n, and beyond
pub by_places : {A : Type 0} (n : ℕ) (f g : ℕ → A) → f 0 ≡ g 0 → ((i : ℕ) → i < n → f (suc i) ≡ g (suc i))
    → ((i : ℕ) → ltb i n ≡ false → f (suc i) ≡ g (suc i)) → f ≡ g
by_places n f g zeroth there beyond = fun_ext each
  where
    each : (k : ℕ) → f k ≡ g k
    each zero = zeroth
    each (suc i) = by_test (ltb i n) (λ h. there i (ltb-true i n h)) (beyond i)

-- ---- places

pub back_one : (k : ℕ) → 1 ≤ k → suc (k - 1) ≡ k
back_one k h = omega arith

pub less_one : (j : ℕ) → suc j - 1 ≡ j
less_one j = omega arith

pub same_place : (k j : ℕ) → 1 ≤ k → eqb k (suc j) ≡ eqb (k - 1) j
same_place zero j h = let z : ⊥ = omega arith in absurd z
same_place (suc k) j h = rw (less_one k) (eqb-suc-suc k j)
