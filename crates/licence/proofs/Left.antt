-- Days left by the order of dates: 0 on the last day, positive before it, negative after it.
--
-- Where there is an answer, the entry is a licence and the day a date, and the answer is the difference of
-- the two day numbers (`left_of`). The sign of a difference is the order of the two numbers (`Differences`),
-- and day numbers keep the order of dates both ways and are one to one (crate `calendar`). So the sign is the
-- order of the dates (`on_last_day`, `before_end`, `after_end`).
-- Assumes nothing.
use Rattle.basics.proofs.Prelude.{◌≡◌, sym, ap, ◌∙◌, true, false, ◌&&◌, ℕ, ltb-true, lt-ltb}
use Rattle.std.specs.Prelude.{Ok, Err}
use mathlib.Core.Logic.{◌↔◌}
use lib.IntN.{ℤ, pos, ◌-ℤ◌}
use lib.Signed.{lt_z}
use Rattle.basics.proofs.Cases.{by_test, both, clash}
use Rattle.refusal.specs.Numbers.{numbered}
use Rattle.calendar.specs.Calendar.{is_date}
use Rattle.calendar.specs.declared.Date.{Date}
use Rattle.calendar.specs.Order.{date, is_real, number, earlier}
use Rattle.calendar.proofs.Order.{order_kept, order_back, one_to_one}
use Rattle.licence.specs.Entry.{fields_of, is_licence}
use Rattle.licence.specs.Verdict.{end_of, days_left}
use Rattle.licence.proofs.Ends.{end_real}
use Rattle.licence.proofs.Differences.{diff_negative, diff_positive, diff_same, diff_zero}

module _ (entry year month day : ℕ) where
  abbrev end : Date
  end = end_of (fields_of entry)

  abbrev today : Date
  today = date year month day

  pub left_given : is_licence entry ≡ true → is_date year month day ≡ true
      → days_left entry year month day ≡ Ok (pos (number end) -ℤ pos (number today))
  unfolding days_left
  left_given p q = rw (p, q)

  pub left_refused : is_licence entry && is_date year month day ≡ false
      → days_left entry year month day ≡ Err (numbered 8)
  unfolding days_left
  left_refused f = rw f

  -- what an answer says of the entry and the day
  pub record Left (left : ℤ) : Type 0 where
    pub licence : is_licence entry ≡ true
    pub date : is_date year month day ≡ true
    pub is : left ≡ pos (number end) -ℤ pos (number today)

  pub left_of : (left : ℤ) → days_left entry year month day ≡ Ok left → Left left
  left_of left given =
      by_test (is_licence entry && is_date year month day)
      (λ t. let p = both (is_licence entry) (is_date year month day) t in
      let b = left_given p.0 p.1 in
      record { licence = p.0; date = p.1; is = cc })
      (λ f. let b = left_refused f in clash (cc))

  module _ (left : ℤ) (given : days_left entry year month day ≡ Ok left) where
    end_is_real : is_real end ≡ true
    end_is_real = end_real entry (left_of left given).licence

    today_is_real : is_real today ≡ true
    today_is_real = (left_of left given).date

    pub on_last_day : left ≡ pos 0 ↔ today ≡ end
    on_last_day =
        let is = (left_of left given).is in (
          λ z. one_to_one today end today_is_real end_is_real (sym (diff_zero _ _ (sym is ∙ z))),
          λ same. is ∙ diff_same _ _ (ap number (sym same)),
        )

    pub before_end : lt_z (pos 0) left ≡ true ↔ earlier today end ≡ true
    before_end =
        let is = ap (λ (z : ℤ). lt_z (pos 0) z) (left_of left given).is in
        let sign = is ∙ diff_positive (number end) (number today) in (
          λ h. order_back today end today_is_real end_is_real (ltb-true _ _ (sym sign ∙ h)),
          λ o. sign ∙ lt-ltb _ _ (order_kept today end today_is_real end_is_real o),
        )

    pub after_end : lt_z left (pos 0) ≡ true ↔ earlier end today ≡ true
    after_end =
        let is = ap (λ (z : ℤ). lt_z z (pos 0)) (left_of left given).is in
        let sign = is ∙ diff_negative (number end) (number today) in (
          λ h. order_back end today end_is_real today_is_real (ltb-true _ _ (sym sign ∙ h)),
          λ o. sign ∙ lt-ltb _ _ (order_kept end today end_is_real today_is_real o),
        )
