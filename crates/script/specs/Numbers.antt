-- Numbers as text: decimal and upper-case hexadecimal digits (01, 'The program rehearse').
--
-- In order: digits and their values; the value of a text; the text of a value.
-- Assumes nothing.
use Prim.Native.Char.{code}
use Rattle.std.specs.Prelude.{ℕ, zero, suc, ◌+◌, ◌-◌, ◌*◌, ◌/◌, ◌%◌, ◌^◌, Bool, true, cond, ◌&&◌, ◌||◌, List, [], ◌∷◌, leb, ltb, eqb, length, Option, Some, None}
use Rattle.basics.specs.Digits.{hex_digit}
use Rattle.message.specs.Layout.{message_bytes}
use Rattle.message.specs.Pair.{entry_bits}

-- 0 to 9, and A to F
abbrev pub is_digit : ℕ → Bool
is_digit byte = leb (code "0") byte && leb byte (code "9")

abbrev pub is_letter : ℕ → Bool
is_letter byte = leb (code "A") byte && leb byte (code "F")

abbrev pub is_hex_digit : ℕ → Bool
is_hex_digit byte = is_digit byte || is_letter byte

-- the value of a digit
abbrev pub digit_value : ℕ → ℕ
digit_value byte = byte - code "0"

abbrev pub hex_value : ℕ → ℕ
hex_value byte = cond (is_digit byte) (digit_value byte) (byte - 55)

-- every byte of a text passes a test
unfoldable pub all_bytes : (ℕ → Bool) → List ℕ → Bool
all_bytes test [] = true
all_bytes test (byte ∷ rest) = test byte && all_bytes test rest

-- the value of digits to a base, behind a value
unfoldable pub value_from : (ℕ → ℕ) → ℕ → ℕ → List ℕ → ℕ
value_from digit base value [] = value
value_from digit base value (byte ∷ rest) = value_from digit base (value * base + digit byte) rest

-- a number of 1 to 7 digits
unfoldable pub number_in : List ℕ → Option ℕ
number_in text =
    cond (leb 1 (length text) && leb (length text) 7 && all_bytes is_digit text)
    (Some (value_from digit_value 10 0 text)) None

-- n hexadecimal digits
unfoldable pub hex_in : ℕ → List ℕ → Option ℕ
hex_in n text =
    cond (eqb (length text) n && all_bytes is_hex_digit text) (Some (value_from hex_value 16 0 text)) None

-- the last n digits of a value to a base, the highest first
unfoldable pub digits_of : ℕ → ℕ → ℕ → List ℕ
digits_of base zero value = []
digits_of base (suc n) value = hex_digit (value / base ^ n % base) ∷ digits_of base n value

-- how many decimal digits a number below 10 ^ (n + 1) has
unfoldable pub digit_count : ℕ → ℕ → ℕ
digit_count zero value = 1
digit_count (suc n) value = cond (ltb value 10) 1 (suc (digit_count n (value / 10)))

-- a number of 64 bits in decimal, with no zeros before it: it has at most 20 digits
abbrev pub decimal : ℕ → List ℕ
decimal value = digits_of 10 (digit_count 19 value) value

-- the hexadecimal digits of an entry, of four bits each, and of a message
abbrev pub entry_digits : ℕ
entry_digits = entry_bits / 4

abbrev pub message_digits : ℕ
message_digits = 2 * message_bytes

-- an entry as text
abbrev pub hex_entry : ℕ → List ℕ
hex_entry value = digits_of 16 entry_digits value
