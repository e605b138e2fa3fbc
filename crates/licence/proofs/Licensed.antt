-- What the fields of a licence are, by their bounds.
--
-- The tests of `is_licensed` all pass exactly when the date is real and the state is one of the three
-- (`licensed`, `licensed_of`). So every field but the copies is within its width, and the copies are if they
-- have 16 bits (`narrow`).
-- Assumes nothing.
use Rattle.basics.proofs.Prelude.{◌≡◌, true, ◌&&◌, ◌^◌, ◌≤◌, ◌<◌, arith, leb, leb-true, le-leb}
use Rattle.basics.proofs.Cases.{both, both_of}
use Rattle.calendar.specs.Calendar.{leap, is_date}
use Rattle.calendar.proofs.Dates.{Real, real, real_date}
use Rattle.calendar.proofs.Lengths.{month_most}
use Rattle.licence.specs.declared.Fields.{Fields}
use Rattle.licence.specs.Entry.{copies_place, Narrow, opened, withdrawn, is_licensed}

pub record Licensed (fields : Fields) : Type 0 where
  pub date : Real fields.year fields.month fields.day
  pub state_least : opened ≤ fields.state
  pub state_most : fields.state ≤ withdrawn

pub licensed : (fields : Fields) → is_licensed fields ≡ true → Licensed fields
unfolding is_licensed
licensed fields e =
    let test = is_date fields.year fields.month fields.day in
    let p = both (test && leb opened fields.state) (leb fields.state withdrawn) e in
    let q = both test (leb opened fields.state) p.0 in
    record { date = real q.0; state_least = leb-true _ _ q.1; state_most = leb-true _ _ p.1 }

pub licensed_of : (fields : Fields) → Licensed fields → is_licensed fields ≡ true
unfolding is_licensed
licensed_of fields bounds =
    both_of _ _ (both_of _ _ (real_date bounds.date) (le-leb _ _ bounds.state_least))
    (le-leb _ _ bounds.state_most)

pub narrow : (fields : Fields) → is_licensed fields ≡ true → fields.copies < 2 ^ copies_place.width
    → Narrow fields
narrow fields e h =
    let bounds = licensed fields e in
    let d = month_most (leap fields.year) fields.month in
    record {
      year = omega (arith, bounds.date.year_most);
      month = omega (arith, bounds.date.month_most);
      day = omega (arith, bounds.date.day_most, d);
      copies = h;
      state = omega (arith, bounds.state_most);
    }
