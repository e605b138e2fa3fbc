-- `put_numeral`: a numeral that keeps digits has their text written, and the last two behind them.
use Rattle.basics.proofs.Prelude.{arith, rules}
use Rattle.script.proofs.Lengths.{decimal_fits}
use Rattle.script.proofs.Numerals.{kept_room, two_below, kept_inside, numeral_begun}
use Rattle.script.proofs.print.put_numeral.Goals as goal

pub put_decimal-requires : goal.put_decimal-requires
put_decimal-requires c = decimal_fits _ _ _ c.requires.1

-- the digits that are kept, and the last two, end within the buffer
pub overflow_add-kept_end : goal.overflow_add-kept_end
overflow_add-kept_end c =
    let inside = kept_inside c.args.numeral c.requires.0 _ _ c.requires.1 in
    search rules

pub put_two-requires : goal.put_two-requires
put_two-requires c =
    let numeral = c.args.numeral in
    let own = c.requires.0 in
    (kept_room numeral own c.requires.1 c.put_text.ensures, two_below numeral own)

pub overflow_add-result : goal.overflow_add-result
overflow_add-result c =
    let inside = kept_inside c.args.numeral c.requires.0 _ _ c.requires.1 in
    search rules

pub returns : goal.returns
returns c =
    numeral_begun c.args.numeral c.requires.0 (omega arith) (omega (arith, c.requires.1)) c.put_text.ensures
    c.put_two.ensures
