-- `is_licensed`: the tests are the definition's, in its order.
-- Assumes nothing.
use Rattle.basics.proofs.Prelude.{◌≡◌, Bool, arith, le-leb, lt-leb}
use Rattle.calendar.specs.declared.Date.{Date}
use Rattle.calendar.specs.Calendar.{is_date}
use Rattle.licence.specs.declared.Fields.{Fields}
use Rattle.licence.specs.Entry.{is_licensed}
use Rattle.licence.specs.Verdict.{end_of}
use Rattle.licence.proofs.is_licensed.Goals as goal

-- what the test of the last day says of the fields
tested : (fields : Fields) (last : Date) (test given : Bool) → last ≡ end_of fields
    → test ≡ is_date last.year last.month last.day → test ≡ given
    → is_date fields.year fields.month fields.day ≡ given
tested fields last test given end is found = cc

pub returns-then-not-is_date : goal.returns-then-not-is_date
unfolding is_licensed
returns-then-not-is_date c = simp (tested c.args.fields _ _ _ c.end_of.ensures c.is_date.ensures c.if-not-is_date.true)

pub returns-then-fields-lt-OPEN : goal.returns-then-fields-lt-OPEN
unfolding is_licensed
returns-then-fields-lt-OPEN c =
    simp (
      tested c.args.fields _ _ _ c.end_of.ensures c.is_date.ensures c.if-not-is_date.false,
      lt-leb 1 c.args.fields.state (omega arith),
    )

pub returns : goal.returns
unfolding is_licensed
returns c =
    simp (
      tested c.args.fields _ _ _ c.end_of.ensures c.is_date.ensures c.if-not-is_date.false,
      le-leb 1 c.args.fields.state (omega arith),
    )
