-- Numbers in a range: its last one or an earlier one; induction from a number on; what holds until something
-- happens; two numbers neither of which is below the other.
-- Assumes nothing.
use Rattle.basics.proofs.Prelude.{◌≡◌, sym, subst, ◌⊎◌, inl, inr, ℕ, zero, suc, ◌≤◌, ◌<◌, arith, eqb}
use Rattle.basics.proofs.Prelude.{leb, ltb, eqb-true, eqb-false, leb-true, leb-false, ltb-true}
use Rattle.basics.proofs.Prelude.{ltb-false}
use Rattle.basics.proofs.Cases.{by_test, by_either}

-- a number below n + 1: n, or one below n
pub at_last {ℓ} : {C : Type ℓ} (i n : ℕ) → i < suc n → (i ≡ n → C) → (i < n → C) → C
at_last i n h last earlier =
    by_test (eqb i n) (λ e. last (eqb-true i n e)) (λ e. earlier (let d = eqb-false i n e in omega arith))

-- what holds at n, and at all numbers above b and below n, holds at all above b and below n + 1
pub one_more {ℓ} : (P : ℕ → Type ℓ) (b n : ℕ) → P n → ((j : ℕ) → b < j → j < n → P j)
    → (j : ℕ) → b < j → j < suc n → P j
one_more P b n last earlier j low high =
    at_last j n high (λ e. subst P (sym e) last) (λ less. earlier j low less)

-- what holds at b, and at n + 1 if at n for every n from b on, holds at all numbers from b on
pub from_on {ℓ} : (P : ℕ → Type ℓ) (b : ℕ) → P b → ((n : ℕ) → b ≤ n → P n → P (suc n)) → (n : ℕ) → b ≤ n → P n
from_on P b start more zero h = let z : b ≡ 0 = omega arith in subst P z start
from_on P b start more (suc n) h =
    by_test (leb b n) (λ e. more n (leb-true b n e) (from_on P b start more n (leb-true b n e)))
    (λ e. let g = leb-false b n e in let z : b ≡ suc n = omega arith in subst P z start)

-- P happened at a number above b and below i
pub record Happened (P : ℕ → Type 0) (b i : ℕ) : Type 0 where
  pub at : ℕ
  pub after : b < at
  pub before : at < i
  pub how : P at

-- O holds until P happens: right after b, and at n + 1 if at n, unless P happens at n
pub until : (O P : ℕ → Type 0) (b : ℕ) → O (suc b) → ((n : ℕ) → b < n → O n → O (suc n) ⊎ P n)
    → (i : ℕ) → b < i → O i ⊎ Happened P b i
until O P b start next =
    from_on (λ i. O i ⊎ Happened P b i) (suc b) (inl start)
    (λ n lt s. by_either s
    (λ o. by_either (next n lt o) (λ o'. inl o')
    (λ p. inr (record { at = n; after = lt; before = omega arith; how = p })))
    (λ h. let before = h.before in
    inr (record { at = h.at; after = h.after; before = omega arith; how = h.how })))

pub neither_below : (a b : ℕ) → (a < b → ⊥) → (b < a → ⊥) → a ≡ b
neither_below a b p q =
    by_test (ltb a b) (λ t. absurd (p (ltb-true a b t)))
    (λ t. by_test (ltb b a) (λ u. absurd (q (ltb-true b a u)))
    (λ u. let x = ltb-false a b t in let y = ltb-false b a u in omega arith))
