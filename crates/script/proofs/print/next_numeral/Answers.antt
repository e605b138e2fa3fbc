-- `next_numeral`: the next number has the same hundreds, unless it is a multiple of 100.
use Rattle.basics.proofs.Prelude.{◌≡◌, refl, ap, ◌∙◌, ℕ, ◌+◌, ◌-◌, ◌/◌, ◌%◌, ◌^◌, ◌<◌, arith, lt-ltb}
use Rattle.script.specs.declared.print.Numeral.{Numeral}
use Rattle.script.specs.Numerals.{next_number, numeral_of}
use Rattle.script.proofs.Numerals.{last_two_lem}
use Rattle.script.proofs.print.next_numeral.Goals as goal

number_raised : (n : ℕ) → n < 2 ^ 64 - 1 → next_number n ≡ n + 1
number_raised n h = rw (lt-ltb n (2 ^ 64 - 1) h) refl

-- the numeral with its number one higher
goes_along : {numeral : Numeral} (n : ℕ) → (n + 1) / 100 ≡ n / 100 → numeral ≡ numeral_of n → record {
  number = n + 1;
  text = numeral.text;
  kept = numeral.kept;
  last_two = numeral.last_two + 1;
}
    ≡ numeral_of (n + 1)
unfolding numeral_of
goes_along {numeral} n same e =
    let text : numeral.text ≡ (numeral_of (n + 1)).text = ap (λ (x : Numeral). x.text) e ∙ rw same refl in
    let kept : numeral.kept ≡ (numeral_of (n + 1)).kept = ap (λ (x : Numeral). x.kept) e ∙ rw same refl in
    let last : numeral.last_two ≡ n % 100 = ap (λ (x : Numeral). x.last_two) e in
    let last_two_lem : numeral.last_two + 1 ≡ (n + 1) % 100 = omega (arith, last, same) in
    λ i. record { number = n + 1; text = text i; kept = kept i; last_two = last_two_lem i }

one_higher : (numeral : Numeral) → numeral ≡ numeral_of numeral.number → numeral.number < 2 ^ 64 - 1
    → numeral.last_two < 99 → record {
      number = numeral.number + 1;
      text = numeral.text;
      kept = numeral.kept;
      last_two = numeral.last_two + 1;
    }
    ≡ numeral_of (next_number numeral.number)
one_higher numeral own h few =
    let n = numeral.number in
    let same : (n + 1) / 100 ≡ n / 100 = omega (arith, last_two_lem numeral own) in
    cc (goes_along n same own, number_raised n h)

pub returns : goal.returns
returns c = one_higher c.args.numeral c.requires (omega arith) (omega arith)
