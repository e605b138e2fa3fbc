-- What is printed reads back: a number below 10 ^ 7 in decimal, and n hexadecimal digits of a number that
-- they hold. (The other way, what is read prints back: `Spelling`.)
--
-- Why: each digit spells its value (`decimal_digit`, `hex_digit_lem`), so n digits of v spell the last n digits
-- of v (`value_back`), which are all of it: v has as many decimal digits as are printed (`count_holds`), and
-- at most 7 below 10 ^ 7 (`count_few`). No zero stands before a number: its first digit counts
-- (`count_exact`).
-- Assumes nothing.
use Rattle.basics.proofs.Prelude.{◌≡◌, refl, ap, ◌∙◌, Bool, true, false, length, ℕ, zero, suc, ◌+◌, ◌-◌}
use Rattle.basics.proofs.Prelude.{◌*◌, ◌/◌, ◌%◌, ◌^◌, ◌≤◌, ◌<◌, zero-add, arith, ltb, eq-eqb, le-leb, lt-leb}
use Rattle.basics.proofs.Prelude.{ltb-true, ltb-false, lt-ltb}
use Rattle.std.specs.Prelude.{Some}
use native.Mathlib.Nat.{pow-zero, pow-suc, pow-succ', mod-lt, mod-eq_of_lt, zero-mul, add-mul}
use native.Mathlib.Nat.{mul_assoc, add_assoc, lt_of_lt_of_le, mul-pos}
use lib.Arith.{mod-mul}
use lib.Dec.{lit≤}
use Rattle.basics.proofs.Cases.{by_test, both_of}
use Rattle.basics.specs.Digits.{hex_digit}
use Rattle.script.specs.Numbers.{is_digit, is_hex_digit, digit_value, hex_value, all_bytes, entry_digits}
use Rattle.script.specs.Numbers.{value_from, number_in, hex_in, digits_of, digit_count, decimal, hex_entry}
use Rattle.script.proofs.Digits.{digits_length, tenth_lt, count_few, count_some}

-- ---- one digit

-- a digit from 0 on, a letter from A on
low : (d : ℕ) → d < 10 → is_digit (48 + d) ≡ true
low d h = rw (le-leb 48 (48 + d) (omega arith), le-leb (48 + d) 57 (omega arith)) refl

high : (d : ℕ) → 10 ≤ d → is_digit (55 + d) ≡ false
high d h = rw (le-leb 48 (55 + d) (omega arith), lt-leb (55 + d) 57 (omega arith)) refl

decimal_digit : (d : ℕ) → d < 10 → digit_value (hex_digit d) ≡ d
decimal_digit d h = rw (lt-ltb d 10 h) (omega arith)

is_decimal : (d : ℕ) → d < 10 → is_digit (hex_digit d) ≡ true
is_decimal d h = rw (lt-ltb d 10 h) (low d h)

hex_digit_lem : (d : ℕ) → d < 16 → hex_value (hex_digit d) ≡ d
hex_digit_lem d h =
    by_test (ltb d 10) (λ t. rw (t, low d (ltb-true d 10 t)) (omega arith))
    (λ t. let many = ltb-false d 10 t in rw (t, high d many) (omega arith))

is_hex : (d : ℕ) → d < 16 → is_hex_digit (hex_digit d) ≡ true
is_hex d h =
    by_test (ltb d 10) (λ t. rw (t, low d (ltb-true d 10 t)) refl)
    (λ t. let many = ltb-false d 10 t in
    rw (t, high d many, le-leb 65 (55 + d) (omega arith), le-leb (55 + d) 70 (omega arith)) refl)

-- ---- n digits to a base

module _ (base : ℕ) (some_base : 0 < base) where
  pos : (n : ℕ) → 0 < base ^ n
  pos zero = rw (pow-zero base) (omega arith)
  pos (suc n) = rw (pow-suc base n) (mul-pos (pos n) some_base)

  all_back : (test : ℕ → Bool) → ((d : ℕ) → d < base → test (hex_digit d) ≡ true) → (n value : ℕ)
      → all_bytes test (digits_of base n value) ≡ true
  unfolding all_bytes digits_of
  all_back test each zero value = refl
  all_back test each (suc n) value =
      both_of (test (hex_digit (value / base ^ n % base))) (all_bytes test (digits_of base n value))
      (each (value / base ^ n % base) (mod-lt (value / base ^ n) some_base)) (all_back test each n value)

  value_back : (digit : ℕ → ℕ) → ((d : ℕ) → d < base → digit (hex_digit d) ≡ d)
      → (n number value : ℕ)
      → value_from digit base number (digits_of base n value) ≡ number * base ^ n + value % base ^ n
  unfolding value_from digits_of
  value_back digit each zero number value = rw (pow-zero base) (omega arith)
  value_back digit each (suc n) number value =
      let d : ℕ = value / base ^ n % base in
      ap (λ (x : ℕ). value_from digit base (number * base + x) (digits_of base n value))
      (each d (mod-lt (value / base ^ n) some_base))
      ∙ value_back digit each n (number * base + d) value
      ∙ rw (pow-succ' base n, mod-mul value {m = base} {c = base ^ n} some_base (pos n))
      (simp (add-mul, mul_assoc, add_assoc))

  value_is : (digit : ℕ → ℕ) → ((d : ℕ) → d < base → digit (hex_digit d) ≡ d)
      → (n value : ℕ) → value < base ^ n → value_from digit base 0 (digits_of base n value) ≡ value
  value_is digit each n value h = value_back digit each n 0 value ∙ rw (zero-mul, zero-add) (mod-eq_of_lt h)

-- ---- how many decimal digits

-- the printed digits hold the number
count_holds : (n value : ℕ) → value < 10 ^ suc n → value < 10 ^ digit_count n value
unfolding digit_count
count_holds zero value h = h
count_holds (suc n) value h =
    by_test (ltb value 10) (λ t. rw t (omega (arith, ltb-true value 10 t)))
    (λ t. rw (t, pow-suc 10 (digit_count n (value / 10)))
    (omega (arith, count_holds n (value / 10) (tenth_lt (suc n) value h))))

-- and no fewer: the first digit of a number counts
pub count_exact : (n value : ℕ) → 0 < value → 10 ^ (digit_count n value - 1) ≤ value
unfolding digit_count
count_exact zero value h = rw (pow-zero 10) (omega arith)
count_exact (suc n) value h =
    by_test (ltb value 10) (λ t. rw (t, pow-zero 10) (omega arith))
    (λ t. rw t (longer n value (ltb-false value 10 t)
    (count_exact n (value / 10) (tenth_some value (ltb-false value 10 t)))))
  where
    tenth_some : (value : ℕ) → 10 ≤ value → 0 < value / 10
    tenth_some value h = omega arith

    longer : (n value : ℕ) → 10 ≤ value → 10 ^ (digit_count n (value / 10) - 1) ≤ value / 10
        → 10 ^ (suc (digit_count n (value / 10)) - 1) ≤ value
    longer n value h e =
        let some = count_some n (value / 10) in
        let k : suc (digit_count n (value / 10)) - 1 ≡ suc (digit_count n (value / 10) - 1) = omega arith in
        rw (k, pow-suc 10 (digit_count n (value / 10) - 1)) (omega arith)

-- ---- the laws

-- a number of at most 7 digits, printed, reads back
pub number_back : (value : ℕ) → value < 10 ^ 7 → number_in (decimal value) ≡ Some value
unfolding number_in
number_back value h =
    let n : ℕ = digit_count 19 value in
    let long : length (decimal value) ≡ n = digits_length 10 n value in
    let holds : value < 10 ^ n = count_holds 19 value (lt_of_lt_of_le h (lit≤ tt)) in
    rw (
      le-leb 1 (length (decimal value)) (rw long (count_some 19 value)),
      le-leb (length (decimal value)) 7 (rw long (count_few 19 6 value h)),
      all_back 10 (omega arith) is_digit is_decimal n value,
      value_is 10 (omega arith) digit_value decimal_digit n value holds,
    )
    refl

-- n hexadecimal digits of a number that they hold
pub hex_back : (n value : ℕ) → value < 16 ^ n → hex_in n (digits_of 16 n value) ≡ Some value
unfolding hex_in
hex_back n value h =
    rw (
      eq-eqb (length (digits_of 16 n value)) n (digits_length 16 n value),
      all_back 16 (omega arith) is_hex_digit is_hex n value,
      value_is 16 (omega arith) hex_value hex_digit_lem n value h,
    )
    refl

pub entry_back : (value : ℕ) → value < 2 ^ 40 → hex_in entry_digits (hex_entry value) ≡ Some value
entry_back value h = hex_back entry_digits value h
