-- The end of a licence is a real date (`end_real`), so the calendar numbers it; and where the calendar gives
-- no number, there is no real date (`not_numbered`).
-- Assumes nothing.
use Rattle.basics.proofs.Prelude.{◌≡◌, true, false, ℕ, arith}
use Rattle.std.specs.Prelude.{Err}
use Rattle.basics.proofs.Cases.{by_test}
use Rattle.refusal.specs.declared.Refusal.{Refusal}
use Rattle.calendar.specs.Calendar.{is_date, day_number}
use Rattle.calendar.specs.Order.{is_real}
use Rattle.calendar.proofs.Dates.{real_date}
use Rattle.calendar.proofs.Answers.{day_given}
use Rattle.licence.specs.Entry.{fields_of, is_licence}
use Rattle.licence.specs.Verdict.{end_of}
use Rattle.licence.proofs.Licensed.{licensed}
use Rattle.licence.proofs.Entries.{entry_fields}

pub end_real : (entry : ℕ) → is_licence entry ≡ true → is_real (end_of (fields_of entry)) ≡ true
end_real entry licensed_entry =
    real_date (licensed (fields_of entry) (entry_fields entry licensed_entry)).date

pub not_numbered : (year month day : ℕ) (why : Refusal) → day_number year month day ≡ Err why
    → is_date year month day ≡ false
not_numbered year month day why e =
    by_test (is_date year month day)
    (λ yes. absurd (let n = day_given year month day yes in let z : ◌≡◌ {A = ℕ} 0 1 = cc in omega arith))
    (λ no. no)
