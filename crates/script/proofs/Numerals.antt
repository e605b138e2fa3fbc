-- A numeral, and its number written by it.
--
-- Why: the eight bytes of its text are the digits of its hundreds and zeros. The last two digits, written at
-- the end of those that are kept, make them the number's (`Hundreds`), and at most five of the zeros are left
-- behind it.
-- Assumes nothing.
use Rattle.basics.proofs.Prelude.{◌≡◌, refl, sym, ap, ◌∙◌, List, ◌++◌, append_assoc, length, set, drop}
use Rattle.basics.proofs.Prelude.{replicate, length-append, length-drop, ℕ, ◌+◌, ◌-◌, ◌/◌, ◌%◌, ◌≤◌}
use Rattle.basics.proofs.Prelude.{◌<◌, arith}
use Rattle.basics.specs.Digits.{hex_digit}
use Rattle.script.specs.declared.print.Numeral.{Numeral}
use Rattle.script.specs.declared.print.Output.{Output}
use Rattle.script.specs.Numbers.{decimal}
use Rattle.script.specs.Numerals.{kept_digits, numeral_of}
use Rattle.script.specs.Printed.{behind_number, printed, longest}
use Rattle.script.specs.Writing.{written, Written, Begun}
use Rattle.script.proofs.Writing.{length_written, keeps, named}
use Rattle.script.proofs.Hundreds.{last_two, kept_few, kept_digits_lem}
use Rattle.script.proofs.Digits.{decimal_short, last_one, last_ten}
use Rattle.script.proofs.Lengths.{behind_long}
use Rattle.script.proofs.Over.{two_written, over, begun_keeps, then_over}

pub number_is_lem : (n : ℕ) → (numeral_of n).number ≡ n
unfolding numeral_of
number_is_lem n = refl

-- the numeral of any number is that of its own
pub own_number : {numeral : Numeral} (n : ℕ) → numeral ≡ numeral_of n → numeral ≡ numeral_of numeral.number
own_number n e = e ∙ ap numeral_of (sym (ap (λ (numeral : Numeral). numeral.number) e ∙ number_is_lem n))

-- behind a number there is room for the rest of its line
pub rest_room : (number : ℕ) {before mid : List ℕ} {at number_end : ℕ} → at + longest ≤ length before
    → Begun (decimal number) before at number_end mid → number_end + 60 ≤ length mid
rest_room number free begun = rw (begun_keeps begun) (omega (arith, begun.ends, decimal_short number))

-- the number, and behind it what a line says: the whole line
pub line_written : (number : ℕ) (output : Output) {at number_end end : ℕ} {before mid after : List ℕ}
    → Begun (decimal number) before at number_end mid → Written (behind_number output) mid number_end end after
    → Written (printed number output) before at end after
unfolding printed
line_written number output begun rest = then_over begun (behind_long output) rest

module _ (numeral : Numeral) (own : numeral ≡ numeral_of numeral.number) where
  abbrev digits : List ℕ
  digits = kept_digits (numeral.number / 100)

  text_is : numeral.text ≡ written (replicate 8 0) 0 digits
  unfolding numeral_of
  text_is = ap (λ (other : Numeral). other.text) own

  kept_is : numeral.kept ≡ length digits
  unfolding numeral_of
  kept_is = ap (λ (other : Numeral). other.kept) own

  pub last_two_lem : numeral.last_two ≡ numeral.number % 100
  unfolding numeral_of
  last_two_lem = ap (λ (other : Numeral). other.last_two) own

  few_kept : numeral.kept ≤ 6
  few_kept = omega (arith, kept_is, kept_few (numeral.number / 100))

  eight_bytes : length numeral.text ≡ 8
  eight_bytes =
      ap length text_is
      ∙ length_written (replicate 8 0) 0 digits (omega (arith, kept_few (numeral.number / 100)))

  -- the last two digits have room behind those that are kept
  pub kept_room : {before mid : List ℕ} {at end : ℕ} → at + 20 ≤ length before
      → Written numeral.text before at end mid → at + numeral.kept + 2 ≤ length mid
  kept_room h first = rw (keeps first) (omega (arith, few_kept))

  pub two_below : numeral.last_two < 100
  two_below = omega (arith, last_two_lem)

  pub kept_inside : (at size : ℕ) → at + 20 ≤ size → at + numeral.kept + 2 ≤ size
  kept_inside at size h = omega (arith, few_kept)

  -- what is left of the zeros behind the digits
  abbrev zeros : List ℕ
  zeros = drop (0 + length digits) (replicate 8 0)

  abbrev rest : List ℕ
  rest = drop 2 zeros

  rest_length : length rest ≡ 6 - numeral.kept
  rest_length = simp length-drop (omega (arith, kept_is))

  module _ (some : 0 < numeral.kept) where
    whole : decimal numeral.number ≡ digits ++ last_two numeral.number
    whole = kept_digits_lem numeral.number (omega (arith, kept_is))

    whole_length : length (decimal numeral.number) ≡ numeral.kept + 2
    whole_length = ap length whole ∙ length-append digits (last_two numeral.number) ∙ omega (arith, kept_is)

    -- the text, and the last two digits over its zeros
    pub numeral_begun : {at end : ℕ} {before mid after : List ℕ} → at + 8 ≤ length before
        → Written numeral.text before at end mid
        → after
        ≡ set (set mid (at + numeral.kept + 1) (hex_digit (numeral.last_two % 10))) (at + numeral.kept)
        (hex_digit (numeral.last_two / 10))
        → Begun (decimal numeral.number) before at (at + numeral.kept + 2) after
    numeral_begun {at} {end} {before} {mid} {after} wide first is =
        let number : ℕ = numeral.number in
        let kept_end : ℕ = at + numeral.kept in
        let few : numeral.kept ≤ 6 = few_kept in
        let free : kept_end + 2 ≤ length mid = rw (keeps first) (omega arith) in
        let two : Written (last_two number) mid kept_end (kept_end + 2) after =
        record {
          fits =
              free;
          ends = refl;
          holds = (rw (last_two_lem, last_one number, last_ten number) at is)
              ∙ two_written mid kept_end (hex_digit (number / 10 % 10)) (hex_digit (number % 10)) free;
        } in
        let same : digits ++ (last_two number ++ rest) ≡ decimal number ++ rest =
        sym (append_assoc digits (last_two number) rest)
        ∙ ap (λ (bytes : List ℕ). bytes ++ rest) (sym whole) in
        let sum : length (decimal number ++ rest) ≡ 8 =
        length-append (decimal number) rest ∙ omega (arith, whole_length, rest_length) in
        record {
          more = rest;
          few = omega (arith, rest_length);
          ends = omega (arith, whole_length);
          wrote = record {
            fits = rw sum (omega arith);
            ends = rw sum (omega (arith, rest_length));
            holds =
                over digits zeros (named (λ bytes. bytes) (sym text_is) first)
                (ap (λ (n : ℕ). at + n) kept_is) two
                ∙ ap (λ (bytes : List ℕ). written before at bytes) same;
          };
        }
