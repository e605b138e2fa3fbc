-- The verdict is pulp, hold or print exactly when 01 says.
--
-- Where days left have an answer, pulp is given exactly when they are negative or the state is withdrawn
-- (`pulp_when`). The state of the rest is suspended or open, since the entry is a licence's: hold is given
-- exactly to the suspended (`hold_when`), print exactly to the open (`print_when`). By the order of dates,
-- pulp is given exactly after the end or to the withdrawn (`pulp_by_date`). Without an answer of days left
-- the verdict is refused alike (`verdict_refused`).
-- Assumes nothing.
use Rattle.refusal.specs.declared.Refusal.{Refusal}
use Rattle.basics.proofs.Prelude.{◌≡◌, ap, ◌∙◌, subst, true, false, ◌&&◌, ◌⊎◌, inl, inr, ⊎_elim, ℕ, ◌≤◌}
use Rattle.basics.proofs.Prelude.{arith, eqb, eqb-true, eqb-false, eq-eqb, ne_eqb}
use Rattle.std.specs.Prelude.{Ok, Result, Err}
use mathlib.Core.Logic.{◌↔◌}
use lib.IntN.{ℤ, pos}
use lib.Signed.{lt_z}
use Rattle.basics.proofs.Cases.{by_test, by_either, true_or_false}
use Rattle.refusal.specs.Numbers.{numbered}
use Rattle.calendar.specs.Calendar.{is_date}
use Rattle.calendar.specs.Order.{date, earlier}
use Rattle.licence.specs.declared.Verdict.{Verdict}
use Rattle.licence.specs.declared.Verdict.TheVariants.{Pulp, Hold, Print}
use Rattle.licence.specs.Entry.{fields_of, is_licence, opened, suspended, withdrawn}
use Rattle.licence.specs.Verdict.{end_of, days_left, verdict_by, verdict_of}
use Rattle.licence.proofs.Licensed.{licensed}
use Rattle.licence.proofs.Entries.{entry_fields}
use Rattle.licence.proofs.Left.{left_of, left_refused, after_end}

-- when a verdict is given to days left and a state
abbrev When : ℤ → ℕ → Verdict → Type 0
When left state Pulp = (lt_z left (pos 0) ≡ true) ⊎ (state ≡ withdrawn)
When left state Hold = (lt_z left (pos 0) ≡ false) × (state ≡ suspended)
When left state Print = (lt_z left (pos 0) ≡ false) × (state ≡ opened)

given_when : (left : ℤ) (state : ℕ) → opened ≤ state → state ≤ withdrawn
    → When left state (verdict_by left state)
unfolding verdict_by
given_when left state least most =
    by_test (lt_z left (pos 0)) (λ t. rw t (inl t))
    (λ t. by_test (eqb state withdrawn) (λ w. rw (t, w) (inr (eqb-true state withdrawn w)))
    (λ w. by_test (eqb state suspended) (λ h. rw (t, w, h) (t, eqb-true state suspended h))
    (λ h. let a = eqb-false state withdrawn w in
    let b = eqb-false state suspended h in
    rw (t, w, h) (t, omega arith))))

pulp_given : (left : ℤ) (state : ℕ) → (lt_z left (pos 0) ≡ true) ⊎ (state ≡ withdrawn)
    → verdict_by left state ≡ Pulp
unfolding verdict_by
pulp_given left state h =
    by_test (lt_z left (pos 0)) (λ t. rw t)
    (λ f. by_either h (λ t. absurd (true_or_false (lt_z left (pos 0)) t f))
    (λ w. rw (f, eq-eqb state withdrawn w)))

hold_given : (left : ℤ) (state : ℕ) → lt_z left (pos 0) ≡ false → state ≡ suspended
    → verdict_by left state ≡ Hold
unfolding verdict_by
hold_given left state t h = rw (t, ne_eqb state withdrawn (λ w. omega arith), eq-eqb state suspended h)

print_given : (left : ℤ) (state : ℕ) → lt_z left (pos 0) ≡ false → state ≡ opened
    → verdict_by left state ≡ Print
unfolding verdict_by
print_given left state t o =
    rw (t, ne_eqb state withdrawn (λ w. omega arith), ne_eqb state suspended (λ h. omega arith))

module _ (entry year month day : ℕ) where
  abbrev state : ℕ
  state = (fields_of entry).state

  abbrev verdict : Result Verdict Refusal
  verdict = verdict_of entry year month day

  pub verdict_refused : is_licence entry && is_date year month day ≡ false
      → verdict ≡ Err (numbered 8)
  unfolding verdict_of
  verdict_refused f = rw (left_refused entry year month day f)

  module _ (left : ℤ) (given : days_left entry year month day ≡ Ok left) where
    is_by : verdict ≡ Ok (verdict_by left state)
    unfolding verdict_of
    is_by = rw given

    only : (answer : Verdict) → verdict ≡ Ok answer → When left state answer
    only answer q =
        let licence = (left_of entry year month day left given).licence in
        let bounds = licensed (fields_of entry) (entry_fields entry licence) in
        let is = is_by in
        let same : verdict_by left state ≡ answer = cc in
        subst (λ (x : Verdict). When left state x) same
        (given_when left state bounds.state_least bounds.state_most)

    pub pulp_when : verdict ≡ Ok Pulp ↔ ((lt_z left (pos 0) ≡ true) ⊎ (state ≡ withdrawn))
    pulp_when = (only Pulp, λ h. is_by ∙ ap Ok (pulp_given left state h))

    pub hold_when : verdict ≡ Ok Hold ↔ ((lt_z left (pos 0) ≡ false) × (state ≡ suspended))
    hold_when = (only Hold, λ h. is_by ∙ ap Ok (hold_given left state h.0 h.1))

    pub print_when : verdict ≡ Ok Print ↔ ((lt_z left (pos 0) ≡ false) × (state ≡ opened))
    print_when = (only Print, λ h. is_by ∙ ap Ok (print_given left state h.0 h.1))

    pub pulp_by_date : verdict ≡ Ok Pulp
        ↔ ((earlier (end_of (fields_of entry)) (date year month day) ≡ true) ⊎ (state ≡ withdrawn))
    pulp_by_date =
        let after = after_end entry year month day left given in (
          λ answer. ⊎_elim (λ t. inl (after.0 t)) inr (pulp_when.0 answer),
          λ h. pulp_when.1 (⊎_elim (λ t. inl (after.1 t)) inr h),
        )
