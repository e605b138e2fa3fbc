-- Digits of a number written from the last one on, as a loop does that divides by the base.
--
-- In order: what holds when the digits behind place i are written; none of them; one more; two more, to base
-- ten; all of them.
-- Assumes nothing.
use Rattle.basics.proofs.Prelude.{◌≡◌, refl, ap, ◌∙◌, List, length, set, ℕ, suc, ◌+◌, ◌-◌, ◌/◌, ◌%◌, ◌^◌, ◌≤◌}
use Rattle.basics.proofs.Prelude.{◌<◌, arith}
use native.Mathlib.Nat.{pow-zero, pow-suc, div-div-eq-div-mul}
use Rattle.basics.specs.Digits.{hex_digit}
use Rattle.script.specs.Numbers.{digits_of}
use Rattle.script.specs.Writing.{written, Written}
use Rattle.script.proofs.Digits.{digits_length, last_one, last_ten}
use Rattle.script.proofs.Writing.{written_none, written_front, length_written}

-- of n digits those behind place i are written, and the number is divided by the base as often
pub record Trailing (base : ℕ) (before : List ℕ) (at n value : ℕ) (out : List ℕ) (rest i : ℕ) : Type 0 where
  pub most : i ≤ n
  pub divided : rest ≡ value / base ^ (n - i)
  pub holds : out ≡ written before (at + i) (digits_of base (n - i) value)

pub none_yet : (base : ℕ) (before : List ℕ) (at n value : ℕ) → Trailing base before at n value before value n
unfolding digits_of
none_yet base before at n value =
    let none : n - n ≡ 0 = omega arith in
    record {
      most = omega arith;
      divided = rw (none, pow-zero base) (omega arith);
      holds = rw none (written_none before (at + n));
    }

-- a number divided once more by the base
divided_more : (base j value rest : ℕ) → rest ≡ value / base ^ j → rest / base ≡ value / base ^ suc j
divided_more base j value rest e = cc (e, div-div-eq-div-mul value (base ^ j) base, pow-suc base j)

-- the next digit, written before the last j
digit_more : (before : List ℕ) (place base j value rest : ℕ) → place < length before → rest ≡ value / base ^ j
    → set (written before (suc place) (digits_of base j value)) place (hex_digit (rest % base))
    ≡ written before place (digits_of base (suc j) value)
unfolding digits_of
digit_more before place base j value rest h e =
    cc (written_front before place (digits_of base j value) (hex_digit (rest % base)) h, e)

module _ {base : ℕ} {before : List ℕ} {at n value : ℕ} (room : at + n ≤ length before) where
  -- the buffer has its length
  pub wide : {out : List ℕ} {rest i : ℕ} → Trailing base before at n value out rest i
      → length out ≡ length before
  wide {out} {rest} {i} so_far =
      let long : length (digits_of base (n - i) value) ≡ n - i = digits_length base (n - i) value in
      ap length so_far.holds
      ∙ length_written before (at + i) (digits_of base (n - i) value) (rw long (omega arith))

  pub one_more : {out after : List ℕ} {rest i : ℕ} (j : ℕ) → i ≡ suc j
      → after ≡ set out (at + j) (hex_digit (rest % base))
      → Trailing base before at n value out rest i → Trailing base before at n value after (rest / base) j
  one_more {out} {after} {rest} {i} j e is so_far =
      let most : i ≤ n = so_far.most in
      let more : n - j ≡ suc (n - i) = omega arith in
      let here : at + i ≡ suc (at + j) = omega arith in
      record {
        most = omega arith;
        divided = rw more (divided_more base (n - i) value rest so_far.divided);
        holds =
            is ∙ rw (so_far.holds, here, more)
            (digit_more before (at + j) base (n - i) value rest (omega arith) so_far.divided);
      }

  pub all_written : {out after : List ℕ} {rest i : ℕ} → i ≡ 0 → after ≡ out
      → Trailing base before at n value out rest i
      → Written (digits_of base n value) before at (at + n) after
  all_written {out} {after} {rest} {i} e is so_far =
      let long : length (digits_of base n value) ≡ n = digits_length base n value in
      let here : at + i ≡ at = omega arith in
      let all : n - i ≡ n = omega arith in
      record { fits = rw long room; ends = rw long; holds = is ∙ (rw (here, all) at so_far.holds) }

-- two decimal digits at once
pub two_more : {before : List ℕ} {at n value : ℕ} {out after : List ℕ} {rest i : ℕ} (j : ℕ)
    → at + n ≤ length before
    → i ≡ suc (suc j)
    → after ≡ set (set out (at + j + 1) (hex_digit (rest % 100 % 10))) (at + j) (hex_digit (rest % 100 / 10))
    → Trailing 10 before at n value out rest i → Trailing 10 before at n value after (rest / 100) j
two_more {at} {out} {rest} j room e is so_far =
    let one = one_more room (suc j) e refl so_far in
    let here : at + suc j ≡ at + j + 1 = omega arith in
    let two = one_more room j refl (rw (last_one rest, last_ten rest) at is) (rw here at one) in
    let tens : rest / 10 / 10 ≡ rest / 100 = omega arith in
    rw tens at two
