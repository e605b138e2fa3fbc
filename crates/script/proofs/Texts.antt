-- Texts one byte longer: what a loop over the bytes of a text keeps.
--
-- In order: a test of all bytes, and the value of digits, of two texts joined and with one byte more; how
-- large a value of digits is; a hexadecimal digit's value, and how a byte is read.
-- Assumes nothing.
use Rattle.basics.proofs.Prelude.{◌≡◌, refl, ap, ◌∙◌, Bool, true, false, cond, ◌&&◌, List, [], ◌∷◌, ◌++◌}
use Rattle.basics.proofs.Prelude.{length, get_or, take, ℕ, zero, suc, ◌+◌, ◌*◌, ◌%◌, ◌^◌, ◌≤◌, ◌<◌}
use Rattle.basics.proofs.Prelude.{not-suc-le-zero, add-one, arith, leb, ltb, leb-true, le-leb, lt-ltb}
use mathlib.Core.Bool.{and_assoc, and-true}
use native.Mathlib.Nat.{le_of_suc-le-suc, lt_of_lt_of_le, mul-le-mul_left, mul-add}
use lib.Pow.{pow-add, pow_mono}
use lib.Seq.{take-suc}
use Rattle.basics.proofs.Cases.{by_test, both, true_or_false}
use Rattle.script.specs.Numbers.{all_bytes, value_from, is_digit, is_hex_digit, hex_value}

pub all_append : (test : ℕ → Bool) (xs ys : List ℕ)
    → all_bytes test (xs ++ ys) ≡ all_bytes test xs && all_bytes test ys
unfolding all_bytes
all_append test [] ys = refl
all_append test (byte ∷ xs) ys =
    cc (all_append test xs ys, and_assoc (test byte) (all_bytes test xs) (all_bytes test ys))

pub value_append : (digit : ℕ → ℕ) (base number : ℕ) (xs ys : List ℕ)
    → value_from digit base number (xs ++ ys) ≡ value_from digit base (value_from digit base number xs) ys
unfolding value_from
value_append digit base number [] ys = refl
value_append digit base number (byte ∷ xs) ys = value_append digit base (number * base + digit byte) xs ys

module _ (text : List ℕ) (i : ℕ) (inside : i < length text) where
  longer : take (i + 1) text ≡ take i text ++ get_or text i 0 ∷ []
  longer = rw (add-one i) (take-suc text i 0 inside)

  -- the first i + 1 bytes pass a test: the first i do, and the next
  pub all_next : (test : ℕ → Bool)
      → all_bytes test (take (i + 1) text) ≡ all_bytes test (take i text) && test (get_or text i 0)
  unfolding all_bytes
  all_next test =
      let here : ℕ = get_or text i 0 in
      rw longer
      (all_append test (take i text) (here ∷ [])
      ∙ ap (λ (passes : Bool). all_bytes test (take i text) && passes) (and-true (test here)))

  pub all_longer : (test : ℕ → Bool) → all_bytes test (take i text) ≡ true → test (get_or text i 0) ≡ true
      → all_bytes test (take (i + 1) text) ≡ true
  all_longer test before here = all_next test ∙ cc

  -- the value of the first i + 1 digits
  pub value_longer : (digit : ℕ → ℕ) (base value : ℕ) → value ≡ value_from digit base 0 (take i text)
      → value * base + digit (get_or text i 0) ≡ value_from digit base 0 (take (i + 1) text)
  unfolding value_from
  value_longer digit base value e =
      cc (e, value_append digit base 0 (take i text) (get_or text i 0 ∷ []), longer)

-- digits to a base of at most 16: i of them are a number below 2 ^ 4i
pub digits_lt : (value base digit i : ℕ) → value < 2 ^ (4 * i) → base ≤ 16 → digit < 16
    → value * base + digit < 2 ^ (4 * (i + 1))
digits_lt value base digit i h few e =
    let fits : value * base ≤ value * 16 = mul-le-mul_left value few in
    let next : 2 ^ (4 * (i + 1)) ≡ 2 ^ (4 * i) * 2 ^ 4 = rw (mul-add 4 i 1) (pow-add 2 (4 * i) 4) in
    rw next (omega arith)

-- a number of few bits has no more bits
pub fits_more : (value i n : ℕ) → value < 2 ^ i → i ≤ n → value < 2 ^ n
fits_more value i n h le = lt_of_lt_of_le h (pow_mono le)

-- a byte that fails the test is in the text
pub all_fails : (test : ℕ → Bool) (text : List ℕ) (i : ℕ) → i < length text → test (get_or text i 0) ≡ false
    → all_bytes test text ≡ false
unfolding all_bytes
all_fails test [] i h e = absurd (not-suc-le-zero h)
all_fails test (byte ∷ text) zero h e = rw e refl
all_fails test (byte ∷ text) (suc i) h e =
    by_test (test byte) (λ t. rw t (all_fails test text i (le_of_suc-le-suc h) e)) (λ t. rw t refl)

-- a text of 1 to n bytes
pub sized : (text : List ℕ) (n : ℕ) → 1 ≤ length text → length text ≤ n
    → leb 1 (length text) && leb (length text) n ≡ true
sized text n some few = rw (le-leb 1 (length text) some, le-leb (length text) n few)

-- a byte of a range
pub range : (low high byte : ℕ) → leb low byte && leb byte high ≡ true → (low ≤ byte) × (byte ≤ high)
range low high byte e =
    let p = both (leb low byte) (leb byte high) e in (leb-true low byte p.0, leb-true byte high p.1)

-- a hexadecimal digit's value
pub hex_lt : (byte : ℕ) → is_hex_digit byte ≡ true → hex_value byte < 16
hex_lt byte e =
    by_test (is_digit byte) (λ t. rw t (omega (arith, (range 48 57 byte t).1)))
    (λ t. let l = rw t at e in rw t (omega (arith, (range 65 70 byte l).1)))

-- a byte as `hex_value` reads it, its value or 16: what is below 16 was a digit, and is its value
pub hex_told : (byte digit : ℕ) → digit ≡ cond (is_hex_digit byte) (hex_value byte) 16
    → (ltb digit 16 ≡ is_hex_digit byte) × (is_hex_digit byte ≡ true → digit % 16 ≡ hex_value byte)
hex_told byte digit is =
    by_test (is_hex_digit byte)
    (λ t. let h = hex_lt byte t in
    let e : digit ≡ hex_value byte = is ∙ rw t refl in
    (rw (e, t) (lt-ltb (hex_value byte) 16 h), λ _. rw e (omega arith)))
    (λ t. (rw (is, t) refl, λ u. absurd (true_or_false (is_hex_digit byte) u t)))
