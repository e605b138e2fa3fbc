-- The laws of `update`: the new value at the number, the old one elsewhere.
-- Assumes nothing.
use Rattle.basics.proofs.Prelude.{◌≡◌, refl, ◌≢◌, ℕ, eqb, eqb-true, eqb-false, eq-eqb, ne_eqb}
use Rattle.basics.specs.Update.{update}
use Rattle.basics.proofs.Cases.{by_test}

module _ {A : Type 0} where
  pub update_same : (f : ℕ → A) (i : ℕ) (a : A) → update f i a i ≡ a
  unfolding update
  update_same f i a = rw (eq-eqb i i refl) refl

  pub update_other : (f : ℕ → A) (i j : ℕ) (a : A) → i ≢ j → update f i a j ≡ f j
  unfolding update
  update_other f i j a h = rw (ne_eqb i j h) refl

  -- a fact of the changed function at j: the new value's at i, the old function's elsewhere
  pub update_at {ℓ} : (P : A → Type ℓ) (f : ℕ → A) (i j : ℕ) (a : A) → (i ≡ j → P a) → (i ≢ j → P (f j))
      → P (update f i a j)
  unfolding update
  update_at P f i j a new old =
      by_test (eqb i j) (λ e. rw e (new (eqb-true i j e))) (λ e. rw e (old (eqb-false i j e)))
