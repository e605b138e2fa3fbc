-- Case analysis that hands each case its equation: on a test, on one of two, on a list, on an option.
--
-- In order: the four analyses; that true is not false; what tests joined say; what cannot be.
-- Assumes nothing.
use Rattle.basics.proofs.Prelude.{◌≡◌, refl, Bool, true, false, ◌&&◌, ◌||◌, ◌⊎◌, inl, inr, List, []}
use Rattle.basics.proofs.Prelude.{◌∷◌, Option, None, Some, ℕ, arith}

pub by_test {ℓ} : {C : Type ℓ} (b : Bool) → (b ≡ true → C) → (b ≡ false → C) → C
by_test true t f = t refl
by_test false t f = f refl

pub by_either {ℓ} : {A B : Type 0} {C : Type ℓ} → (A ⊎ B) → (A → C) → (B → C) → C
by_either (inl a) f g = f a
by_either (inr b) f g = g b

module _ {A : Type 0} where
  pub by_list {ℓ} : {C : Type ℓ} (l : List A) → (l ≡ [] → C) → ((x : A) (xs : List A) → l ≡ x ∷ xs → C) → C
  by_list [] f g = f refl
  by_list (x ∷ xs) f g = g x xs refl

  pub by_option {ℓ} : {C : Type ℓ} (o : Option A) → (o ≡ None → C) → ((x : A) → o ≡ Some x → C) → C
  by_option None f g = f refl
  by_option (Some x) f g = g x refl

-- a test is not both
pub true_or_false : (b : Bool) → b ≡ true → b ≡ false → ⊥
true_or_false b p q = let z : ◌≡◌ {A = ℕ} 0 1 = cc in omega arith

-- a conjunction that holds: both do
pub both : (a b : Bool) → a && b ≡ true → (a ≡ true) × (b ≡ true)
both true b e = (refl, e)
both false b e = absurd (true_or_false false e refl)

pub both_of : (a b : Bool) → a ≡ true → b ≡ true → a && b ≡ true
both_of true b p q = q
both_of false b p q = p

-- a test that cannot fail
pub true_unless : (b : Bool) → (b ≡ false → ⊥) → b ≡ true
true_unless true h = refl
true_unless false h = absurd (h refl)

-- one of two tests holds
pub one_holds : (a b : Bool) → a || b ≡ true → (a ≡ true) ⊎ (b ≡ true)
one_holds true b e = inl refl
one_holds false b e = inr e

-- a conjunction that fails: one does
pub one_fails : (a b : Bool) → a && b ≡ false → (a ≡ false) ⊎ (b ≡ false)
one_fails true b e = inr e
one_fails false b e = inl refl

-- what cannot be: where an equation sets two constructors equal, `cc` proves that 0 is 1, so `clash (cc)`
-- proves all
pub clash {ℓ} : {C : Type ℓ} → ◌≡◌ {A = ℕ} 0 1 → C
clash z = absurd (omega arith)
