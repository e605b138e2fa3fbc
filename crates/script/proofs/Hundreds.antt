-- The digits of a number, by those of its hundreds, number / 100.
--
-- Why: a number from 100 on has two digits more than its hundreds: these are its last two, and the others are
-- those of the hundreds (`decimal_hundreds`). In order: that; when digits are kept; what those are
-- (`kept_digits_lem`).
-- Assumes nothing.
use Rattle.basics.proofs.Prelude.{◌≡◌, refl, sym, ap, ◌∙◌, ◌&&◌, List, [], ◌∷◌, ◌++◌, length, ℕ, zero, suc}
use Rattle.basics.proofs.Prelude.{◌*◌, ◌/◌, ◌%◌, ◌^◌, ◌≤◌, ◌<◌, arith, ltb, ltb-true, lt-ltb, le-ltb}
use native.Mathlib.Nat.{pow-suc, div-div-eq-div-mul}
use Rattle.basics.proofs.Cases.{by_test, both}
use Rattle.basics.specs.Digits.{hex_digit}
use Rattle.script.specs.Numbers.{digits_of, digit_count, decimal}
use Rattle.script.specs.Numerals.{kept_digits}
use Rattle.script.proofs.Digits.{digits_length, tenth_lt, count_more, count_few}

-- the last two digits
abbrev pub last_two : ℕ → List ℕ
last_two value = hex_digit (value / 10 % 10) ∷ hex_digit (value % 10) ∷ []

digits_behind : (n value : ℕ) → digits_of 10 (suc (suc n)) value ≡ digits_of 10 n (value / 100) ++ last_two value
unfolding digits_of
digits_behind zero value = let one : value / 1 ≡ value = omega arith in rw one
digits_behind (suc n) value =
    let more : 100 * 10 ^ n ≡ 10 ^ suc (suc n) = rw (pow-suc 10 (suc n), pow-suc 10 n) (omega arith) in
    let same : value / 10 ^ suc (suc n) ≡ value / 100 / 10 ^ n =
    ap (λ (x : ℕ). value / x) (sym more) ∙ sym (div-div-eq-div-mul value 100 (10 ^ n)) in
    ap (λ (x : ℕ). hex_digit (x % 10) ∷ digits_of 10 (suc (suc n)) value) same
    ∙ ap (λ (l : List ℕ). hex_digit (value / 100 / 10 ^ n % 10) ∷ l) (digits_behind n value)

-- a longer count finds no more digits
count_steady : (n value : ℕ) → value < 10 ^ suc n → digit_count (suc n) value ≡ digit_count n value
unfolding digit_count
count_steady zero value h = rw (lt-ltb value 10 h) refl
count_steady (suc n) value h =
    by_test (ltb value 10) (λ t. rw t refl)
    (λ t. rw t (ap suc (count_steady n (value / 10) (tenth_lt (suc n) value h))))

pub decimal_hundreds : (value : ℕ) → 0 < value / 100 → value / 100 < 1000000
    → decimal value ≡ decimal (value / 100) ++ last_two value
decimal_hundreds value some few =
    let hundreds : ℕ = value / 100 in
    let tenth : value / 10 / 10 ≡ hundreds = omega arith in
    let count : digit_count 19 value ≡ suc (suc (digit_count 19 hundreds)) = cc (
      count_more 18 value (omega arith),
      count_more 17 (value / 10) (omega arith),
      tenth,
      count_steady 18 hundreds (omega arith),
      count_steady 17 hundreds (omega arith),
    ) in
    cc (count, digits_behind (digit_count 19 hundreds) value)

-- ---- the digits that are kept

pub kept_all : (hundreds : ℕ) → 0 < hundreds → hundreds < 1000000 → kept_digits hundreds ≡ decimal hundreds
unfolding kept_digits
kept_all hundreds some few = rw (lt-ltb 0 hundreds some, lt-ltb hundreds 1000000 few) refl

pub kept_none : (hundreds : ℕ) → (0 < hundreds → 1000000 ≤ hundreds) → kept_digits hundreds ≡ []
unfolding kept_digits
kept_none hundreds not =
    by_test (ltb 0 hundreds) (λ t. rw (t, le-ltb hundreds 1000000 (not (ltb-true 0 hundreds t))) refl)
    (λ t. rw t refl)

pub decimal_few : (hundreds : ℕ) → hundreds < 1000000 → length (decimal hundreds) ≤ 6
decimal_few hundreds few =
    rw (digits_length 10 (digit_count 19 hundreds) hundreds) (count_few 19 5 hundreds few)

pub kept_few : (hundreds : ℕ) → length (kept_digits hundreds) ≤ 6
unfolding kept_digits
kept_few hundreds =
    by_test (ltb 0 hundreds && ltb hundreds 1000000)
    (λ t. let tests = both (ltb 0 hundreds) (ltb hundreds 1000000) t in
    rw t (decimal_few hundreds (ltb-true hundreds 1000000 tests.1)))
    (λ t. rw t (omega arith))

-- if some are kept, with the last two behind them they are the number's
pub kept_digits_lem : (value : ℕ) → 0 < length (kept_digits (value / 100))
    → decimal value ≡ kept_digits (value / 100) ++ last_two value
unfolding kept_digits
kept_digits_lem value some =
    let hundreds : ℕ = value / 100 in
    by_test (ltb 0 hundreds && ltb hundreds 1000000)
    (λ t. let tests = both (ltb 0 hundreds) (ltb hundreds 1000000) t in
    rw t (decimal_hundreds value (ltb-true 0 hundreds tests.0) (ltb-true hundreds 1000000 tests.1)))
    (λ t. absurd (let z = rw t at some in omega arith))
