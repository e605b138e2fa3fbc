-- Members of joined lists, and a fact of all members.
-- Assumes nothing.
use Rattle.basics.proofs.Prelude.{◌≡◌, refl, sym, subst, Bool, true, false, cond, ◌⊎◌, inl, inr, List}
use Rattle.basics.proofs.Prelude.{[], ◌∷◌, ◌++◌}
use Rattle.basics.specs.Members.{Member}
use Rattle.basics.proofs.Cases.{by_either}

module _ {A : Type 0} where
  pub member_left : (a : A) (s t : List A) → Member a s → Member a (s ++ t)
  member_left a [] t x' = elim x' [ ]
  member_left a (x ∷ s) t (inl e) = inl e
  member_left a (x ∷ s) t (inr m) = inr (member_left a s t m)

  pub member_right : (a : A) (s t : List A) → Member a t → Member a (s ++ t)
  member_right a [] t m = m
  member_right a (x ∷ s) t m = inr (member_right a s t m)

  pub member_cases : (a : A) (s t : List A) → Member a (s ++ t) → Member a s ⊎ Member a t
  member_cases a [] t m = inr m
  member_cases a (x ∷ s) t (inl e) = inl (inl e)
  member_cases a (x ∷ s) t (inr m) = by_either (member_cases a s t m) (λ q. inl (inr q)) (λ q. inr q)

  -- a member of a list that is there or not
  pub member_if : (test : Bool) (a : A) (list : List A) → Member a (cond test list [])
      → (test ≡ true) × Member a list
  member_if true a list m = (refl, m)
  member_if false a list m = absurd m

  -- every member has the property
  abbrev pub Every : (A → Type 0) → List A → Type 0
  Every P [] = Unit {0}
  Every P (x ∷ xs) = P x × Every P xs

  pub every_of : (P : A → Type 0) (list : List A) → ((a : A) → Member a list → P a) → Every P list
  every_of P [] h = tt
  every_of P (x ∷ xs) h = (h x (inl refl), every_of P xs (λ a m. h a (inr m)))

  pub every_at : (P : A → Type 0) (list : List A) → Every P list → (a : A) → Member a list → P a
  every_at P [] h a x'' = elim x'' [ ]
  every_at P (x ∷ xs) h a (inl e) = subst P (sym e) h.0
  every_at P (x ∷ xs) h a (inr m) = every_at P xs h.1 a m
