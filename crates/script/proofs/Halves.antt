-- Hexadecimal digits in two parts: 22 digits are a number when the first 6 and the other 16 are, and then it
-- is the first part times 2 ^ 64 plus the second.
-- Assumes nothing.
use Rattle.basics.proofs.Prelude.{◌≡◌, refl, sym, ap, ◌∙◌, true, ◌&&◌, List, [], ◌∷◌}
use Rattle.basics.proofs.Prelude.{length, take, drop, length-drop, length-take-le, ℕ, ◌+◌, ◌-◌, ◌*◌, ◌%◌, ◌^◌}
use Rattle.basics.proofs.Prelude.{◌<◌, zero-add, arith, eqb, eqb-true, eq-eqb}
use Rattle.std.specs.Prelude.{Option, Some, None}
use native.Mathlib.Nat.{mod-eq_of_lt, lt_of_lt_of_le, add-mul, mul_assoc, add_assoc, zero-mul}
use native.Mathlib.Nat.{pow-succ', pow-zero}
use lib.Arith.{digits_lt}
use lib.Dec.{lit≤}
use lib.ListN.{take-append-drop}
use lib.Pow.{high, low}
use Rattle.basics.proofs.Cases.{by_test, both}
use Rattle.script.specs.Numbers.{is_hex_digit, hex_value, all_bytes, value_from, hex_in, message_digits}
use Rattle.script.specs.declared.parse.Line.TheVariants.{Do}
use Rattle.message.specs.declared.Words.{Words}
use Rattle.register.specs.declared.Step.TheVariants.{L}
use Rattle.message.specs.Layout.{words}
use Rattle.script.specs.Grammar.{◌>>=◌, message_after}
use Rattle.script.proofs.Readers.{rest_is}
use Rattle.script.proofs.Texts.{all_append, value_append, hex_lt}

-- digits behind a number push it up
pub value_behind : (digit : ℕ → ℕ) (base number : ℕ) (rest : List ℕ)
    → value_from digit base number rest ≡ number * base ^ length rest + value_from digit base 0 rest
unfolding value_from
value_behind digit base number [] = sym (ap (λ (n : ℕ). number * n + 0) (pow-zero base) ∙ one number)
  where
    one : (number : ℕ) → number * 1 + 0 ≡ number
    one number = omega arith
value_behind digit base number (byte ∷ rest) =
    rw (
      value_behind digit base (number * base + digit byte) rest,
      value_behind digit base (0 * base + digit byte) rest,
      pow-succ' base (length rest),
      zero-mul,
      zero-add,
    )
    (simp (add-mul, mul_assoc, add_assoc))

-- n digits are below 16 ^ n
pub digits_below : (text : List ℕ) → all_bytes is_hex_digit text ≡ true
    → value_from hex_value 16 0 text < 16 ^ length text
unfolding all_bytes value_from
digits_below [] e = rw (pow-zero 16) (omega arith)
digits_below (byte ∷ text) e =
    let parts = both (is_hex_digit byte) (all_bytes is_hex_digit text) e in
    let first : ℕ = 0 * 16 + hex_value byte in
    rw (value_behind hex_value 16 first text, pow-succ' 16 (length text), zero-mul, zero-add)
    (digits_lt (hex_lt byte parts.0) (digits_below text parts.1))

-- what hexadecimal digits that are a number are: n of them, and the number is theirs
pub hex_value_lem : (n : ℕ) (text : List ℕ) (value : ℕ) → hex_in n text ≡ Some value
    → (length text ≡ n) × (value_from hex_value 16 0 text ≡ value) × (all_bytes is_hex_digit text ≡ true)
unfolding hex_in
hex_value_lem n text value e =
    by_test (eqb (length text) n && all_bytes is_hex_digit text)
    (λ t. let parts = both (eqb (length text) n) (all_bytes is_hex_digit text) t in
    let is : value_from hex_value 16 0 text ≡ value = let q = rw t at e in cc in
    (eqb-true (length text) n parts.0, is, parts.1))
    (λ t. let q = rw t at e in let z : ◌≡◌ {A = ℕ} 0 1 = cc in absurd (omega arith))

pub hex_small : (n : ℕ) (text : List ℕ) (value : ℕ) → hex_in n text ≡ Some value → value < 16 ^ n
hex_small n text value e =
    let is = hex_value_lem n text value e in
    rw (← is.1, ← is.0) (digits_below text is.2)

abbrev joined : Option ℕ → Option ℕ → Option ℕ
joined first second = do
  upper ← first
  lower ← second
  Some (upper * 2 ^ 64 + lower)

module _ (text : List ℕ) (wide : length text ≡ message_digits) where
  first_wide : length (take 6 text) ≡ 6
  first_wide = length-take-le 6 text (omega arith)

  rest_wide : length (drop 6 text) ≡ 16
  rest_wide = length-drop 6 text ∙ omega arith

  tests : all_bytes is_hex_digit text ≡ all_bytes is_hex_digit (take 6 text) && all_bytes is_hex_digit (drop 6 text)
  tests = cc (take-append-drop 6 text, all_append is_hex_digit (take 6 text) (drop 6 text))

  values : value_from hex_value 16 0 text
      ≡ value_from hex_value 16 0 (take 6 text) * 2 ^ 64 + value_from hex_value 16 0 (drop 6 text)
  values =
      cc (
        take-append-drop 6 text,
        value_append hex_value 16 0 (take 6 text) (drop 6 text),
        value_behind hex_value 16 (value_from hex_value 16 0 (take 6 text)) (drop 6 text),
        rest_wide,
      )

  halves : hex_in message_digits text ≡ joined (hex_in 6 (take 6 text)) (hex_in 16 (drop 6 text))
  unfolding hex_in
  halves =
      let whole = eq-eqb (length text) message_digits wide in
      let one = eq-eqb (length (take 6 text)) 6 first_wide in
      let two = eq-eqb (length (drop 6 text)) 16 rest_wide in
      by_test (all_bytes is_hex_digit (take 6 text))
      (λ t. by_test (all_bytes is_hex_digit (drop 6 text))
      (λ u. rw (whole, one, two, tests, t, u, values) refl) (λ u. rw (whole, one, two, tests, t, u) refl))
      (λ t. rw (whole, one, tests, t) refl)

-- the two parts of the number are its words
words_back : (upper lower : ℕ) → lower < 2 ^ 64
    → words (upper * 2 ^ 64 + lower) ≡ record { 0 = upper; 1 = lower }
words_back upper lower fits = λ i. record { 0 = high upper 64 fits i; 1 = low upper 64 fits i }

-- what was read of a text of n digits
pub read_wide : (n : ℕ) (text : List ℕ) (told : Option ℕ) → length text ≡ n → told ≡ hex_in (length text) text
    → told ≡ hex_in n text
read_wide n text told wide means = means ∙ ap (λ (k : ℕ). hex_in k text) wide

-- what the readers of the two parts answered, behind a server and a client
module _
    (k d : ℕ)
    (text : List ℕ)
    (wide : length text ≡ message_digits)
    (high : Option ℕ)
    (first : high ≡ hex_in (length (take 6 text)) (take 6 text))
  where
    first_is : hex_in 6 (take 6 text) ≡ high
    first_is = sym (read_wide 6 (take 6 text) high (first_wide text wide) first)

    pub first_none : high ≡ None → None ≡ message_after k d text
    first_none is = rw (halves text wide, first_is, is) refl

    module _
        (low : Option ℕ)
        (second : let rest = take (length text - 6) (drop 6 text) in low ≡ hex_in (length rest) rest)
        {upper : ℕ} (is_high : high ≡ Some upper)
      where
        second_is : hex_in 16 (drop 6 text) ≡ low
        second_is = sym (read_wide 16 (drop 6 text) low (rest_wide text wide) (rw (rest_is text 6) at second))

        pub second_none : low ≡ None → None ≡ message_after k d text
        second_none is_low = rw (halves text wide, first_is, is_high, second_is, is_low) refl

        pub both_are : {lower : ℕ} → low ≡ Some lower
            → Some (Do (L k d (record { 0 = upper % 2 ^ 32; 1 = lower }))) ≡ message_after k d text
        both_are {lower} is_low =
            let small : upper < 2 ^ 24 = hex_small 6 (take 6 text) upper (first_is ∙ is_high) in
            let fits : lower < 2 ^ 64 = hex_small 16 (drop 6 text) lower (second_is ∙ is_low) in
            ap (λ (n : ℕ). Some (Do (L k d (record { 0 = n; 1 = lower }))))
            (mod-eq_of_lt (lt_of_lt_of_le small (lit≤ tt)))
            ∙ ap (λ (w : Words). Some (Do (L k d w))) (sym (words_back upper lower fits))
            ∙ rw (halves text wide, first_is, is_high, second_is, is_low) refl
