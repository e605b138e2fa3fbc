-- Every number is exactly one of a licence entry, the empty entry, and no entry.
--
-- The empty entry has no real date, so it is no licence (`empty_is_none`); hence the three answers of
-- `kind_of` are given exactly to the licence entries (`licence_kind`), to the empty entry (`empty_kind`) and
-- to all that are neither (`nothing_kind`).
-- Assumes nothing.
use Rattle.basics.proofs.Prelude.{◌≡◌, refl, ap, ◌∙◌, true, false, ◌≢◌, ℕ, eqb, eqb-true, eqb-false, eq-eqb}
use Rattle.basics.proofs.Prelude.{ne_eqb}
use mathlib.Core.Logic.{◌↔◌}
use Rattle.basics.proofs.Cases.{by_test, clash}
use Rattle.calendar.specs.Calendar.{is_date}
use Rattle.licence.specs.declared.Kind.TheVariants.{Licence, Empty, Nothing}
use Rattle.licence.specs.Entry.{is_licensed, is_licence, empty, kind_of}

pub empty_is_none : is_licence empty ≡ false
unfolding is_licence is_licensed is_date
empty_is_none = refl

module _ (entry : ℕ) where
  is_licence_lem : is_licence entry ≡ true → kind_of entry ≡ Licence
  unfolding kind_of
  is_licence_lem p = rw p

  is_empty_lem : entry ≡ empty → kind_of entry ≡ Empty
  unfolding kind_of
  is_empty_lem p = rw (ap is_licence p ∙ empty_is_none, eq-eqb entry empty p)

  is_nothing : is_licence entry ≡ false → entry ≢ empty → kind_of entry ≡ Nothing
  unfolding kind_of
  is_nothing p q = rw (p, ne_eqb entry empty q)

  -- the three cases, each with its answer
  by_kind : {C : Type 0} → (is_licence entry ≡ true → kind_of entry ≡ Licence → C)
      → (entry ≡ empty → kind_of entry ≡ Empty → C)
      → (is_licence entry ≡ false → entry ≢ empty → kind_of entry ≡ Nothing → C) → C
  by_kind licence void nothing =
      by_test (is_licence entry) (λ p. licence p (is_licence_lem p))
      (λ p. by_test (eqb entry empty) (λ q. let z = eqb-true entry empty q in void z (is_empty_lem z))
      (λ q. let z = eqb-false entry empty q in nothing p z (is_nothing p z)))

  pub licence_kind : kind_of entry ≡ Licence ↔ is_licence entry ≡ true
  licence_kind = (λ k. by_kind (λ p _. p) (λ _ c. clash (cc)) (λ _ _ c. clash (cc)), is_licence_lem)

  pub empty_kind : kind_of entry ≡ Empty ↔ entry ≡ empty
  empty_kind = (λ k. by_kind (λ _ c. clash (cc)) (λ p _. p) (λ _ _ c. clash (cc)), is_empty_lem)

  pub nothing_kind : kind_of entry ≡ Nothing ↔ ((is_licence entry ≡ false) × (entry ≢ empty))
  nothing_kind = (
    λ k. by_kind (λ _ c. clash (cc)) (λ _ c. clash (cc)) (λ p q _. (p, q)),
    λ h. is_nothing h.0 h.1,
  )
