-- Hexadecimal digits are those of the number that they spell, so an entry is printed as it was read.
--
-- Why: what stands behind a digit is below the digit's weight (`digits_below`), so dividing by the weight
-- leaves the digit, and each digit is that of its value (`digit_of_value`).
-- Assumes nothing.
use Rattle.basics.proofs.Prelude.{◌≡◌, refl, true, List, [], ◌∷◌, length, ℕ, ◌+◌, ◌-◌, ◌*◌, ◌/◌, ◌%◌}
use Rattle.basics.proofs.Prelude.{◌^◌, arith, lt-ltb, le-ltb}
use lib.Arith.{digits_div, digits_mod}
use Rattle.basics.proofs.Cases.{by_test, both}
use Rattle.basics.specs.Digits.{hex_digit}
use Rattle.std.specs.Prelude.{Some}
use Rattle.script.specs.Numbers.{is_digit, is_hex_digit, hex_value, all_bytes, value_from, hex_in}
use Rattle.script.specs.Numbers.{digits_of}
use Rattle.script.proofs.Halves.{value_behind, digits_below, hex_value_lem}
use Rattle.script.proofs.Texts.{hex_lt, range}

digit_of_value : (byte : ℕ) → is_hex_digit byte ≡ true → hex_digit (hex_value byte) ≡ byte
digit_of_value byte e =
    by_test (is_digit byte)
    (λ t. let h = range 48 57 byte t in rw (t, lt-ltb (byte - 48) 10 (omega (arith, h.1)))
    (omega (arith, h.0)))
    (λ t. let h = (range 65 70 byte (rw t at e)).0 in rw (t, le-ltb (byte - 55) 10 (omega arith))
    (omega arith))

digits_back : (number : ℕ) (text : List ℕ) → all_bytes is_hex_digit text ≡ true
    → digits_of 16 (length text) (value_from hex_value 16 number text) ≡ text
unfolding all_bytes value_from digits_of
digits_back number [] e = refl
digits_back number (byte ∷ text) e =
    let parts = both (is_hex_digit byte) (all_bytes is_hex_digit text) e in
    let value : ℕ = value_from hex_value 16 (number * 16 + hex_value byte) text in
    let above : value / 16 ^ length text ≡ number * 16 + hex_value byte =
    cc (
      value_behind hex_value 16 (number * 16 + hex_value byte) text,
      digits_div (number * 16 + hex_value byte) (digits_below text parts.1),
    ) in
    let digit : value / 16 ^ length text % 16 ≡ hex_value byte = cc (
      above,
      digits_mod number (hex_lt byte parts.0),
    ) in
    cc (digit, digit_of_value byte parts.0, digits_back (number * 16 + hex_value byte) text parts.1)

-- n hexadecimal digits that are a number are its digits
pub hex_spelt : (n : ℕ) (text : List ℕ) (value : ℕ) → hex_in n text ≡ Some value → digits_of 16 n value ≡ text
hex_spelt n text value e =
    let is = hex_value_lem n text value e in
    rw (← is.1, ← is.0) (digits_back 0 text is.2)
