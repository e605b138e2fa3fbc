-- The laws of `listed`: how long, which values, joined, changed at one place, and a list listed by its own
-- values.
--
-- All by induction over the number of values, since one more value stands behind those before it.
-- Assumes nothing.
use Rattle.basics.proofs.Prelude.{◌≡◌, refl, sym, ap, ◌∙◌, List, [], ◌∷◌, ◌++◌, append_assoc}
use Rattle.basics.proofs.Prelude.{append-nil, length, get_or, set, take, replicate, length-append, ℕ}
use Rattle.basics.proofs.Prelude.{zero, suc, ◌+◌, ◌≤◌, ◌<◌, not-suc-le-zero, add-zero, add-one, arith}
use native.Mathlib.Nat.{add-suc}
use lib.ListN.{replicate-append-replicate}
use lib.ListN.{get_or-append}
use lib.Seq.{take-suc, take_all, get_or_at, set_at, set-append_left}
use Rattle.basics.specs.Tables.{listed}
use Rattle.basics.specs.Update.{update}
use Rattle.basics.proofs.Ranges.{at_last}
use Rattle.basics.proofs.Update.{update_same, update_other}

module _ {A : Type 0} where
  pub listed_length : (value : ℕ → A) (n : ℕ) → length (listed value n) ≡ n
  unfolding listed
  listed_length value zero = refl
  listed_length value (suc n) =
      length-append (listed value n) (value n ∷ []) ∙ rw (listed_length value n) (omega arith)

  pub listed_same : (value other : ℕ → A) (n : ℕ) → ((j : ℕ) → j < n → value j ≡ other j)
      → listed value n ≡ listed other n
  unfolding listed
  listed_same value other zero h = refl
  listed_same value other (suc n) h =
      rw (listed_same value other n (λ j less. h j (omega arith)), h n (omega arith))

  pub listed_join : (value : ℕ → A) (first n : ℕ)
      → listed value (first + n) ≡ listed value first ++ listed (λ j. value (first + j)) n
  unfolding listed
  listed_join value first zero = rw (add-zero first) (sym (append-nil (listed value first)))
  listed_join value first (suc n) =
      rw (add-suc first n, listed_join value first n, append_assoc (listed value first))

  pub listed_cons : (value : ℕ → A) (n : ℕ) → listed value (suc n) ≡ value 0 ∷ listed (λ j. value (suc j)) n
  unfolding listed
  listed_cons value zero = refl
  listed_cons value (suc n) = rw (listed_cons value n)

  pub listed_get : (value : ℕ → A) (n i : ℕ) (otherwise : A) → i < n
      → get_or (listed value n) i otherwise ≡ value i
  unfolding listed
  listed_get value zero i otherwise h = absurd (not-suc-le-zero h)
  listed_get value (suc n) i otherwise h =
      at_last i n h (λ q. rw q (get_or_at (listed value n) (value n) [] otherwise n (listed_length value n)))
      (λ less. get_or-append (listed value n) (value n ∷ []) otherwise i (rw (listed_length value n) less)
      ∙ listed_get value n i otherwise less)

  pub listed_set : (value : ℕ → A) (n i : ℕ) (new : A) → i < n
      → set (listed value n) i new ≡ listed (update value i new) n
  unfolding listed
  listed_set value zero i new h = absurd (not-suc-le-zero h)
  listed_set value (suc n) i new h =
      at_last i n h
      (λ q. rw (
        ← q,
        update_same value i new,
        listed_same (update value i new) value i (λ j less. update_other value i j new (λ z. omega arith)),
      ) (set_at (listed value i) (value i) [] new i (listed_length value i)))
      (λ less. set-append_left (listed value n) (value n ∷ []) i new (rw (listed_length value n) less)
      ∙ rw (listed_set value n i new less, update_other value i n new (λ z. omega arith)))

  -- the first n values of a list, and all of them
  pub listed_first : (list : List A) (n : ℕ) (otherwise : A) → n ≤ length list
      → listed (λ j. get_or list j otherwise) n ≡ take n list
  unfolding listed
  listed_first list zero otherwise h = refl
  listed_first list (suc n) otherwise h =
      rw (listed_first list n otherwise (omega arith)) (sym (take-suc list n otherwise (omega arith)))

  pub listed_all : (list : List A) (n : ℕ) (otherwise : A) → length list ≡ n
      → listed (λ j. get_or list j otherwise) n ≡ list
  listed_all list n otherwise e = listed_first list n otherwise (omega arith) ∙ take_all n list (omega arith)

  -- one value, n times
  pub listed_replicate : (n : ℕ) (new : A) → listed (λ j. new) n ≡ replicate n new
  unfolding listed
  listed_replicate zero new = refl
  listed_replicate (suc n) new =
      rw (listed_replicate n new)
      (replicate-append-replicate n 1 new ∙ ap (λ (k : ℕ). replicate k new) (add-one n))
