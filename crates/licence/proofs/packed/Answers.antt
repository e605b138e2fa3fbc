-- `packed`: each field in turn goes where the sum of those before it has zeros, so that or is plus.
-- Assumes nothing.
use Rattle.basics.proofs.Prelude.{◌≡◌, ◌+◌, ◌*◌, ◌%◌, ◌^◌, arith}
use native.Mathlib.Nat.{mul-one}
use lib.Dec.{lit≤}
use lib.Bits.{bit_or}
use lib.Pow.{shl_exact}
use Rattle.basics.proofs.Bits.{or_field, or_adds}
use Rattle.licence.specs.declared.Fields.{Fields}
use Rattle.licence.specs.Entry.{joined, Narrow}
use Rattle.licence.proofs.packed.Goals as goal

-- the shifted fields, one by one, as a sum
adds : (fields : Fields) → Narrow fields →
    bit_or
    (bit_or
    (bit_or (bit_or (fields.year * 2 ^ 28 % 2 ^ 64) (fields.month * 2 ^ 24 % 2 ^ 64))
    (fields.day * 2 ^ 19 % 2 ^ 64)) (fields.copies * 2 ^ 3 % 2 ^ 64)) fields.state
    ≡ joined fields
adds fields narrow =
    let to_year = fields.year * 2 ^ 28 in
    let to_month = to_year + fields.month * 2 ^ 24 in
    let to_day = to_month + fields.day * 2 ^ 19 in
    let to_copies = to_day + fields.copies * 2 ^ 3 in
    rw (
      shl_exact 12 28 64 narrow.year (lit≤ tt),
      or_field to_year fields.month 4 24 (omega arith) narrow.month (lit≤ tt),
      or_field to_month fields.day 5 19 (omega arith) narrow.day (lit≤ tt),
      or_field to_day fields.copies 16 3 (omega arith) narrow.copies (lit≤ tt),
      or_adds to_copies 3 fields.state (omega arith) narrow.state,
      mul-one fields.state,
    )

pub returns : goal.returns
returns c = adds c.args.fields c.requires
