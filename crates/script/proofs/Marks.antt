-- Marks, read from the last to the first: each is one bit below those behind it.
-- Assumes nothing.
use Rattle.basics.proofs.Prelude.{◌≡◌, ap, true, List, length, get_or, drop, ℕ, suc, ◌+◌, ◌-◌, ◌*◌, ◌^◌, ◌≤◌}
use Rattle.basics.proofs.Prelude.{◌<◌, arith, eqb, eqb-true}
use lib.Pow.{pow-add}
use lib.Seq.{drop-cons}
use Rattle.basics.proofs.Cases.{by_test}
use Rattle.script.specs.Numbers.{all_bytes}
use Rattle.script.specs.Grammar.{is_mark, mark_bits}

-- a mark is 0 or 1
pub mark_range : (byte : ℕ) → is_mark byte ≡ true → (48 ≤ byte) × (byte ≤ 49)
mark_range byte e =
    by_test (eqb byte 48) (λ t. let h = eqb-true byte 48 t in (omega arith, omega arith))
    (λ t. let h = eqb-true byte 49 (rw t at e) in (omega arith, omega arith))

module _ (text : List ℕ) (i : ℕ) (inside : i < length text) where
  pub all_from : is_mark (get_or text i 0) ≡ true → all_bytes is_mark (drop (suc i) text) ≡ true
      → all_bytes is_mark (drop i text) ≡ true
  unfolding all_bytes
  all_from here rest = rw (drop-cons text i 0 inside, here) rest

  pub bits_from : (value : ℕ) → value ≡ mark_bits (drop (suc i) text)
      → (get_or text i 0 - 48) + 2 * value ≡ mark_bits (drop i text)
  unfolding mark_bits
  bits_from value e = rw (drop-cons text i 0 inside) (ap (λ (n : ℕ). (get_or text i 0 - 48) + 2 * n) e)

  pub bits_lt : (value : ℕ) → is_mark (get_or text i 0) ≡ true → value < 2 ^ (length text - suc i)
      → (get_or text i 0 - 48) + 2 * value < 2 ^ (length text - i)
  bits_lt value here less =
      let n : length text - i ≡ (length text - suc i) + 1 = omega arith in
      let to = (mark_range (get_or text i 0) here).1 in
      rw (n, pow-add 2 (length text - suc i) 1) (omega arith)
