-- Digits of a number: how many are written, and how many a number has.
--
-- In order: the length of digits; how many decimal digits a number has, one division at a time; bounds of
-- that count, by powers of ten.
-- Assumes nothing.
use Rattle.basics.proofs.Prelude.{◌≡◌, refl, ap, length, ℕ, zero, suc, ◌+◌, ◌/◌, ◌%◌, ◌^◌, ◌≤◌, ◌<◌, arith}
use Rattle.basics.proofs.Prelude.{ltb, lt-ltb, le-ltb}
use native.Mathlib.Nat.{pow-suc, one-le-pow, le-div_iff_mul-le, div-lt_iff_lt-mul, zero-lt-suc}
use Rattle.basics.proofs.Cases.{by_test}
use Rattle.basics.specs.Digits.{hex_digit}
use Rattle.script.specs.Numbers.{digits_of, digit_count, decimal}

pub digits_length : (base n value : ℕ) → length (digits_of base n value) ≡ n
unfolding digits_of
digits_length base zero value = refl
digits_length base (suc n) value = ap suc (digits_length base n value)

-- a decimal digit is one of 0 to 9
pub digit_below_ten : (value : ℕ) → value < 10 → 48 + value ≡ hex_digit value
digit_below_ten value h = rw (lt-ltb value 10 h)

-- the last two digits of a number are those of its last two as a number
pub last_one : (value : ℕ) → value % 100 % 10 ≡ value % 10
last_one value = omega arith

pub last_ten : (value : ℕ) → value % 100 / 10 ≡ value / 10 % 10
last_ten value = omega arith

-- ---- how many

pub count_more : (n value : ℕ) → 10 ≤ value → digit_count (suc n) value ≡ suc (digit_count n (value / 10))
unfolding digit_count
count_more n value h = rw (le-ltb value 10 h) refl

-- a tenth has one digit less
pub tenth_le : (n value : ℕ) → 10 ^ suc n ≤ value → 10 ^ n ≤ value / 10
tenth_le n value h = (le-div_iff_mul-le (zero-lt-suc 9)).1 (rw (pow-suc 10 n) at h)

pub tenth_lt : (n value : ℕ) → value < 10 ^ suc n → value / 10 < 10 ^ n
tenth_lt n value h = (div-lt_iff_lt-mul (zero-lt-suc 9)).1 (rw (pow-suc 10 n) at h)

pub count_some : (n value : ℕ) → 1 ≤ digit_count n value
unfolding digit_count
count_some zero value = omega arith
count_some (suc n) value = by_test (ltb value 10) (λ t. rw t (omega arith)) (λ t. rw t (omega arith))

pub count_most : (n value : ℕ) → digit_count n value ≤ suc n
unfolding digit_count
count_most zero value = omega arith
count_most (suc n) value =
    by_test (ltb value 10) (λ t. rw t (omega arith)) (λ t. rw t (omega (arith, count_most n (value / 10))))

-- a number below a power of ten has at most as many
pub count_few : (n digits value : ℕ) → value < 10 ^ suc digits → digit_count n value ≤ suc digits
unfolding digit_count
count_few zero digits value h = omega arith
count_few (suc n) zero value h = rw (lt-ltb value 10 h) (omega arith)
count_few (suc n) (suc digits) value h =
    by_test (ltb value 10) (λ t. rw t (omega arith))
    (λ t. rw t (omega (arith, count_few n digits (value / 10) (tenth_lt (suc digits) value h))))

-- a number from a power of ten on has more
pub count_many : (n digits value : ℕ) → digits ≤ n → 10 ^ digits ≤ value → digits < digit_count n value
count_many n zero value l h = count_some n value
count_many zero (suc digits) value l h = absurd (omega arith)
count_many (suc n) (suc digits) value l h =
    let some = one-le-pow digits 10 (zero-lt-suc 9) in
    let tenth = count_many n digits (value / 10) (omega arith) (tenth_le digits value h) in
    rw (count_more n value (omega arith)) (omega arith)

pub decimal_short : (value : ℕ) → length (decimal value) ≤ 20
decimal_short value = rw (digits_length 10 (digit_count 19 value) value) (count_most 19 value)
