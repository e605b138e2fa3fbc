-- Days left and verdict on a day (01, section 'Entry and calendar').
--
-- In order: the last day; days left; the verdict by days left and state; the verdict on a day.
-- Assumes nothing.
use Rattle.std.specs.Prelude.{ℕ, cond, not, ◌&&◌, ◌||◌, [], ◌∷◌, eqb, ℤ, pos, ◌-ℤ◌, Result, Ok, Err}
use Rattle.std.specs.Int.Signed.{lt_z}
use Rattle.refusal.specs.declared.Refusal.{Refusal}
use Rattle.refusal.specs.Ladder.{◌whenever◌, lowest, or_refused}
use Rattle.calendar.specs.Calendar.{is_date}
use Rattle.calendar.specs.declared.Date.{Date}
use Rattle.calendar.specs.Order.{date, number}
use Rattle.licence.specs.declared.Fields.{Fields}
use Rattle.licence.specs.declared.Verdict.{Verdict}
use Rattle.licence.specs.declared.Verdict.TheVariants.{Pulp, Hold, Print}
use Rattle.licence.specs.Entry.{fields_of, is_licence, suspended, withdrawn}

-- the last day
abbrev pub end_of : Fields → Date
end_of fields = date fields.year fields.month fields.day

-- the end's day number minus the day's, or refused 8, 'no such entry', where the entry is none of a licence or
-- the day no date
unfoldable pub days_left : ℕ → ℕ → ℕ → ℕ → Result ℤ Refusal
days_left entry year month day =
    or_refused (lowest (8 whenever not (is_licence entry && is_date year month day) ∷ []))
    (pos (number (end_of (fields_of entry))) -ℤ pos (number (date year month day)))

-- pulp when days left are negative or the state is withdrawn; otherwise hold when suspended, print when open
unfoldable pub verdict_by : ℤ → ℕ → Verdict
verdict_by left state =
    cond (lt_z left (pos 0) || eqb state withdrawn) Pulp (cond (eqb state suspended) Hold Print)

-- 01's answer: 'pulp', 'hold' or 'print', or refused 8, 'no such entry', as days left are
abbrev pub judged : Result ℤ Refusal → ℕ → Result Verdict Refusal
judged (Ok left) state = Ok (verdict_by left state)
judged (Err why) state = Err why

unfoldable pub verdict_of : ℕ → ℕ → ℕ → ℕ → Result Verdict Refusal
verdict_of entry year month day = judged (days_left entry year month day) (fields_of entry).state
