-- Joining fields by shift and or is adding them, where the bits below are free. Numbers joined by or are
-- below 16 where all are.
-- Assumes nothing.
use Rattle.basics.proofs.Prelude.{◌≡◌, sym, ap, ◌∙◌, ◌&&◌, ℕ, ◌+◌, ◌*◌, ◌/◌, ◌%◌, ◌^◌, ◌≤◌, ◌<◌}
use Rattle.basics.proofs.Prelude.{add-zero, arith, ltb, ltb-true, ltb-false, lt-ltb, le-ltb}
use lib.Bits.{bit_or, bit_and, or_shifted, or_lt, or_add_and, and_le_l, and_le_r}
use lib.Pow.{split, shl_lt, shl_exact}
use Rattle.basics.proofs.Cases.{by_test}

-- x has zeros below bit k, and b is below 2 ^ k
pub or_adds : (x k b : ℕ) → x % 2 ^ k ≡ 0 → b < 2 ^ k → bit_or x b ≡ x + b
or_adds x k b z h =
    let e : x / 2 ^ k * 2 ^ k ≡ x =
    sym (add-zero (x / 2 ^ k * 2 ^ k)) ∙ ap (λ (n : ℕ). x / 2 ^ k * 2 ^ k + n) (sym z) ∙ split x k in
    ap (λ (n : ℕ). bit_or n b) (sym e) ∙ or_shifted (x / 2 ^ k) k b h ∙ ap (λ (n : ℕ). n + b) e

-- the next field, of j bits, joins what stands above it
pub or_field : (x b j k : ℕ) → x % 2 ^ (j + k) ≡ 0 → b < 2 ^ j → j + k ≤ 64
    → bit_or x (b * 2 ^ k % 2 ^ 64) ≡ x + b * 2 ^ k
or_field x b j k z h fits =
    ap (λ (n : ℕ). bit_or x n) (shl_exact j k 64 h fits) ∙ or_adds x (j + k) (b * 2 ^ k) z (shl_lt j k h)

-- two numbers joined by or are below 16 where both are: neither is above the join
pub or_small : (a b : ℕ) → ltb (bit_or a b) 16 ≡ ltb a 16 && ltb b 16
or_small a b =
    let sum : bit_or a b + bit_and a b ≡ a + b = or_add_and a b in
    let left : bit_and a b ≤ a = and_le_l a b in
    let right : bit_and a b ≤ b = and_le_r a b in
    by_test (ltb a 16)
    (λ p. by_test (ltb b 16) (λ q. rw (p, q) (lt-ltb _ 16 (or_lt 4 a b (ltb-true a 16 p) (ltb-true b 16 q))))
    (λ q. rw (p, q) (le-ltb (bit_or a b) 16 (let h = ltb-false b 16 q in omega arith))))
    (λ p. rw p (le-ltb (bit_or a b) 16 (let h = ltb-false a 16 p in omega arith)))
