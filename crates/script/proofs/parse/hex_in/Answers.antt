-- `hex_in`: the loop keeps that `bad` is below 16 exactly where all bytes that it has passed are digits, and
-- their value if they are. There are at most 16.
use Rattle.basics.proofs.Prelude.{refl, sym, ap, ◌∙◌, length, get_or, take, ℕ, ◌+◌}
use Rattle.basics.proofs.Prelude.{◌*◌, ◌%◌, ◌^◌, ◌≤◌, ◌<◌, arith, eq-eqb, lt-ltb, le-ltb, rules}
use lib.Seq.{take_all}
use Rattle.basics.proofs.Bits.{or_small}
use Rattle.basics.proofs.Cases.{both}
use Rattle.script.specs.Numbers.{is_hex_digit, hex_value, all_bytes, value_from, hex_in}
use Rattle.script.proofs.Texts.{all_next, value_longer, digits_lt, fits_more, hex_told}
use Rattle.script.proofs.parse.hex_in.Goals as goal

pub loop-byte-init : goal.loop-byte-init
unfolding all_bytes value_from
loop-byte-init c = (refl, λ e. refl, search rules)

-- the value so far has fewer than 16 digits
small : (value i size : ℕ) → value < 2 ^ (4 * i) → i < size → size ≤ 16 → value < 2 ^ 60
small value i size h inside few = fits_more value (4 * i) 60 h (omega arith)

pub overflow_mul-value : goal.overflow_mul-value
overflow_mul-value c =
    omega (arith, small c.loop-byte.value c.loop-byte.byte-index (length c.args.text.now) c.loop-byte.invariant.2 (omega arith) c.requires)

pub overflow_add-value : goal.overflow_add-value
overflow_add-value c =
    omega (arith, small c.loop-byte.value c.loop-byte.byte-index (length c.args.text.now) c.loop-byte.invariant.2 (omega arith) c.requires)

pub loop-byte-preserved : goal.loop-byte-preserved
loop-byte-preserved c =
    let loop = c.loop-byte in
    let bytes = c.args.text.now in
    let digit = c.hex_value-digit.result in
    let told = hex_told (get_or bytes loop.byte-index 0) digit c.hex_value-digit.ensures in
    let inside : loop.byte-index < length bytes = omega arith in
    let next = all_next bytes loop.byte-index inside is_hex_digit in (
      cc (or_small loop.bad digit, told.0, next, loop.invariant.0),
      λ e. let parts = both (all_bytes is_hex_digit (take loop.byte-index bytes)) (is_hex_digit (get_or bytes loop.byte-index 0))
          (sym next ∙ e) in
          ap (λ (x : ℕ). loop.value * 16 + x) (told.1 parts.1)
          ∙ value_longer bytes loop.byte-index inside hex_value 16 loop.value (loop.invariant.1 parts.0),
      digits_lt loop.value 16 (digit % 16) loop.byte-index loop.invariant.2 (omega arith) (omega arith),
    )

-- the loop has passed all bytes
pub returns-then-bad-lt16 : goal.returns-then-bad-lt16
unfolding hex_in
returns-then-bad-lt16 c =
    let loop = c.loop-byte in
    let text = c.args.text.now in
    let n = length text in
    let whole = take_all loop.byte-index text (omega arith) in
    let all = sym loop.invariant.0 ∙ lt-ltb loop.bad 16 c.if-bad-lt16.true in
    simp (eq-eqb n n refl, rw whole at all, loop.invariant.1 all, whole)

pub returns-else-bad-lt16 : goal.returns-else-bad-lt16
unfolding hex_in
returns-else-bad-lt16 c =
    let loop = c.loop-byte in
    let text = c.args.text.now in
    let n = length text in
    let whole = take_all loop.byte-index text (omega arith) in
    let some_bad = sym loop.invariant.0 ∙ le-ltb loop.bad 16 c.if-bad-lt16.false in
    simp (eq-eqb n n refl, rw whole at some_bad)
