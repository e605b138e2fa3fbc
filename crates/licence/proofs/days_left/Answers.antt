-- `days_left`: the end of a licence is a real date, so the calendar numbers it; the day is refused where the
-- calendar refuses it. Both numbers are small, as `difference` asks.
-- Assumes nothing.
use Rattle.basics.proofs.Prelude.{◌≡◌, sym, ap, ◌∙◌, true, ℕ, rules}
use Rattle.std.proofs.lemmas.Result.{err_from_is_err_and}
use Rattle.std.specs.Prelude.{Result, Ok, Err}
use mir.Syntax.{w32}
use Rattle.std.proofs.lemmas.Int.{to_z-of_z}
use Rattle.basics.proofs.Cases.{clash}
use Rattle.refusal.specs.declared.Refusal.{Refusal}
use Rattle.refusal.specs.Numbers.{numbered}
use Rattle.calendar.specs.declared.Date.{Date}
use Rattle.calendar.specs.Calendar.{day_number}
use Rattle.calendar.specs.Order.{number}
use Rattle.calendar.proofs.Answers.{day_is, day_small, day_given, day_refused}
use Rattle.licence.specs.declared.Fields.{Fields}
use Rattle.licence.specs.Entry.{is_licence, fields_of}
use Rattle.licence.specs.Verdict.{end_of, days_left}
use Rattle.licence.proofs.Ends.{end_real, not_numbered}
use Rattle.licence.proofs.days_left.Goals as goal

-- the calendar's answer on the end of a licence is its number
end_numbered : (entry : ℕ) (fields : Fields) (last : Date) (answer : Result ℕ Refusal)
    → is_licence entry ≡ true → fields ≡ fields_of entry → last ≡ end_of fields
    → answer ≡ day_number last.year last.month last.day → answer ≡ Ok (number (end_of (fields_of entry)))
end_numbered entry fields last answer licence split end given =
    given ∙ ap (λ (d : Date). day_number d.year d.month d.day) (end ∙ ap end_of split)
    ∙ day_given _ _ _ (end_real entry licence)

pub returns-then-not-is_licence : goal.returns-then-not-is_licence
unfolding days_left
returns-then-not-is_licence c = simp (sym c.is_licence.ensures ∙ c.if-not-is_licence.true)

pub returns-in_err-last : goal.returns-in_err-last
returns-in_err-last c =
    let licence = sym c.is_licence.ensures ∙ c.if-not-is_licence.false in
    let n = end_numbered _ _ _ _ licence c.split.ensures c.end_of.ensures c.day_number.ensures in
    let refused = c.in_err-last.was in
    clash (cc)

pub returns-in_err-today : goal.returns-in_err-today
unfolding days_left
returns-in_err-today c =
    let licence = sym c.is_licence.ensures ∙ c.if-not-is_licence.false in
    let refused = sym c.day_number-2.ensures ∙ c.in_err-today.was in
    let given = err_from_is_err_and c.from_residual-in_err-today.result c.from_residual-in_err-today.ensures.1 in
    let no = not_numbered _ _ _ _ refused in
    let none = day_refused _ _ _ no in
    let why : c.in_err-today.field-0.0 ≡ numbered 8 = cc in
    rw (given.1, given.2) (simp (licence, no) (ap Err why))

pub difference-requires : goal.difference-requires
difference-requires c = (
  day_small _ _ _ _ (sym c.day_number.ensures ∙ c.in_ok-last.was),
  day_small _ _ _ _ (sym c.day_number-2.ensures ∙ c.in_ok-today.was),
)

pub returns : goal.returns
unfolding days_left
returns c =
    let licence = sym c.is_licence.ensures ∙ c.if-not-is_licence.false in
    let n = end_numbered _ _ _ _ licence c.split.ensures c.end_of.ensures c.day_number.ensures in
    let t = c.in_ok-last.was in
    let last : number (end_of (fields_of c.args.entry)) ≡ c.in_ok-last.last = cc in
    let day = day_is _ _ _ _ (sym c.day_number-2.ensures ∙ c.in_ok-today.was) in
    simp (licence, day.0, day.1, last)
    (ap Ok (to_z-of_z w32 c.difference.result (search rules) ∙ c.difference.ensures))
