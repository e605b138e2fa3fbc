-- `number_in`: the loop keeps the value of the digits that it has passed.
use Rattle.basics.proofs.Prelude.{refl, sym, ◌∙◌, length, get_or, ◌*◌, ◌^◌, ◌<◌}
use Rattle.basics.proofs.Prelude.{arith, le-leb, lt-leb, rules}
use lib.Seq.{take_all}
use Rattle.script.specs.Numbers.{is_digit, digit_value, all_bytes, value_from, number_in}
use Rattle.script.proofs.Texts.{all_longer, value_longer, digits_lt, fits_more}
use Rattle.script.proofs.Texts.{all_fails, range, sized}
use Rattle.script.proofs.parse.number_in.Goals as goal

pub returns-then-text-lt1 : goal.returns-then-text-lt1
unfolding number_in
returns-then-text-lt1 c = simp (lt-leb 1 _ c.if-text-lt1.true)

pub returns-then-text-gt-NUMBER_DIGITS : goal.returns-then-text-gt-NUMBER_DIGITS
unfolding number_in
returns-then-text-gt-NUMBER_DIGITS c = simp (le-leb 1 _ c.if-text-lt1.false, lt-leb _ 7 c.if-text-gt-NUMBER_DIGITS.true)

pub loop-byte-init : goal.loop-byte-init
unfolding all_bytes value_from
loop-byte-init c = (refl, refl, search rules)

pub returns-then-not-is_digit : goal.returns-then-not-is_digit
unfolding number_in
returns-then-not-is_digit c =
    let bytes = c.args.text.now in
    let fits = sized bytes 7 c.if-text-lt1.false c.if-text-gt-NUMBER_DIGITS.false in
    let no_digit = sym c.is_digit.ensures ∙ c.if-not-is_digit.true in
    simp (fits, all_fails is_digit bytes c.loop-byte.byte-index (omega arith) no_digit)

-- where the loop goes on: the byte is a digit, and the value so far has fewer than 7
pub overflow_add-value : goal.overflow_add-value
overflow_add-value c =
    let loop = c.loop-byte in
    let is = sym c.is_digit.ensures ∙ c.if-not-is_digit.false in
    let small : loop.value < 2 ^ 24 = fits_more loop.value (4 * loop.byte-index) 24 loop.invariant.2 (omega arith) in
    omega (arith, small, (range 48 57 (get_or c.args.text.now loop.byte-index 0) is).1)

pub loop-byte-preserved : goal.loop-byte-preserved
loop-byte-preserved c =
    let loop = c.loop-byte in
    let bytes = c.args.text.now in
    let byte = get_or bytes loop.byte-index 0 in
    let inside : loop.byte-index < length bytes = omega arith in
    let is = sym c.is_digit.ensures ∙ c.if-not-is_digit.false in (
      all_longer bytes loop.byte-index inside is_digit loop.invariant.0 is,
      value_longer bytes loop.byte-index inside digit_value 10 loop.value loop.invariant.1,
      digits_lt loop.value 10 (digit_value byte) loop.byte-index loop.invariant.2 (omega arith)
          (omega (arith, (range 48 57 byte is).1)),
    )

pub returns : goal.returns
unfolding number_in
returns c =
    let loop = c.loop-byte in
    let bytes = c.args.text.now in
    let fits = sized bytes 7 c.if-text-lt1.false c.if-text-gt-NUMBER_DIGITS.false in
    let whole = take_all loop.byte-index bytes (omega arith) in
    simp (fits, rw whole at loop.invariant.0, loop.invariant.1, whole)
