-- `days_before`: both rows are tested against the rule at once, and `row_entry` carries the test to the entry
-- that is read.
use Rattle.basics.proofs.Prelude.{◌≡◌, refl, ap, Bool, true, false, ℕ, ◌<◌, arith, eqb}
use mir.Val.{bool_byte}
use Rattle.basics.proofs.Table.{row_entry}
use Rattle.calendar.specs.Calendar.{days_before, month_length}
use Rattle.calendar.proofs.days_before.Goals as goal

-- the row of a test: 1 where it holds
row_less : (b : Bool) → bool_byte b < 2
row_less true = omega arith
row_less false = omega arith

row_back : (b : Bool) → eqb (bool_byte b) 1 ≡ b
row_back true = refl
row_back false = refl

pub returns : goal.returns
unfolding days_before month_length
returns c =
    let a = c.before.args in
    let row : bool_byte a.leap < 2 = row_less a.leap in
    let place : a.place < 12 = c.before.requires in
    let tested : true ≡ true = refl in
    rw (row_entry (λ (i k : ℕ). days_before (eqb i 1) k) 12)
    (ap (λ (b : Bool). days_before b a.place) (row_back a.leap))
