-- The laws of pairs: a pair is its parts, its timestamp is counter * 16 + client, and its order is the order
-- of its number.
--
-- A pair is a number in three digits, counter, client and entry, of which the last two have a base, 2 ^ 4 and
-- 2 ^ 40. So the parts of a pair of parts are these parts (`counter_of_lem`, `client_of_lem`, `entry_of_lem`,
-- `stamp_of_lem`), a pair is the pair of its parts (`parts`), and of two numbers the one with the lower first
-- digit is lower, whatever the rest (`digits_order`).
-- Assumes nothing.
use Rattle.basics.proofs.Prelude.{◌≡◌, refl, sym, ap, ◌∙◌, Bool, ℕ, ◌+◌, ◌*◌, ◌/◌, ◌%◌, ◌^◌, ◌<◌, arith, ltb}
use Rattle.basics.proofs.Prelude.{eq-eqb, ne_eqb, ltb-true, ltb-false, lt-ltb, le-ltb}
use native.Mathlib.Nat.{mod-lt}
use lib.Arith.{digits_lt}
use lib.Pow.{split, shr_lt, pow_pos}
use Rattle.basics.proofs.Cases.{by_test}
use Rattle.message.specs.declared.Entry.{Entry}
use Rattle.message.specs.declared.Pair.{Pair}
use Rattle.message.specs.declared.WriteCounter.{WriteCounter}
use Rattle.message.specs.Pair.{counter_bits, client_bits, entry_bits, stamp_bits, pair_bits, client_at}
use Rattle.message.specs.Pair.{counter_at, counter, client, entry, stamp, pair_of, initial, below}
use Rattle.message.specs.Order.{first_then, earlier, lower}

-- ---- the parts of a pair of parts

module _ (count : WriteCounter) (d : ℕ) (content : Entry) (narrow : d < 2 ^ client_bits)
    (small : content.0 < 2 ^ entry_bits) where
  pub counter_of_lem : counter (pair_of count d content) ≡ count
  unfolding counter pair_of
  counter_of_lem =
      let h : (pair_of count d content).0 / 2 ^ counter_at ≡ count.0 = omega arith in
      λ i. record { 0 = h i }

  pub client_of_lem : client (pair_of count d content) ≡ d
  unfolding client pair_of
  client_of_lem = omega arith

  pub entry_of_lem : entry (pair_of count d content) ≡ content
  unfolding entry pair_of
  entry_of_lem =
      let h : (pair_of count d content).0 % 2 ^ entry_bits ≡ content.0 = omega arith in
      λ i. record { 0 = h i }

  pub stamp_of_lem : stamp (pair_of count d content) ≡ count.0 * 2 ^ client_bits + d
  unfolding stamp pair_of
  stamp_of_lem = omega arith

  pub pair_fits : count.0 < 2 ^ counter_bits → (pair_of count d content).0 < 2 ^ pair_bits
  unfolding pair_of
  pair_fits h = omega arith

-- ---- a pair is its parts, each within its width

pub parts : (pair : Pair) → pair_of (counter pair) (client pair) (entry pair) ≡ pair
unfolding pair_of counter client entry
parts pair =
    let h : (pair_of (counter pair) (client pair) (entry pair)).0 ≡ pair.0 = omega arith in
    λ i. record { 0 = h i }

pub stamp_is : (pair : Pair) → stamp pair ≡ (counter pair).0 * 2 ^ client_bits + client pair
unfolding stamp counter client
stamp_is pair = omega arith

pub number_is_lem : (pair : Pair) → pair.0 ≡ stamp pair * 2 ^ client_at + (entry pair).0
unfolding stamp entry
number_is_lem pair = sym (split pair.0 entry_bits)

pub counter_fits : (pair : Pair) → pair.0 < 2 ^ pair_bits → (counter pair).0 < 2 ^ counter_bits
unfolding counter
counter_fits pair h = shr_lt counter_bits counter_at h

pub client_fits : (pair : Pair) → client pair < 2 ^ client_bits
unfolding client
client_fits pair = mod-lt (pair.0 / 2 ^ client_at) (pow_pos client_bits)

pub entry_fits : (pair : Pair) → (entry pair).0 < 2 ^ entry_bits
unfolding entry
entry_fits pair = mod-lt pair.0 (pow_pos entry_bits)

pub stamp_fits : (pair : Pair) → pair.0 < 2 ^ pair_bits → stamp pair < 2 ^ stamp_bits
unfolding stamp
stamp_fits pair h = shr_lt stamp_bits client_at h

-- a number is one pair only
pub same_number : (pair other : Pair) → pair.0 ≡ other.0 → pair ≡ other
same_number pair other h = λ i. record { 0 = h i }

pub client_of_stamp : (pair : Pair) → client pair ≡ stamp pair % 2 ^ client_bits
unfolding client stamp
client_of_stamp pair = refl

-- 01: 'The start is the empty entry at counter 0, desk 0'
pub initial_parts : pair_of (record { 0 = 0 }) 0 (record { 0 = 0 }) ≡ initial
unfolding pair_of
initial_parts = refl

pub initial_stamp : stamp initial ≡ 0
unfolding stamp
initial_stamp = refl

-- ---- the order

-- the pair with the higher timestamp is the higher
pub stamp_lt : (pair other : Pair) → stamp pair < stamp other → pair.0 < other.0
stamp_lt pair other h =
    let k : stamp pair * 2 ^ client_at + (entry pair).0 < stamp other * 2 ^ client_at =
    digits_lt h (entry_fits pair) in
    omega (arith, number_is_lem pair, number_is_lem other)

-- two digits: the first decides, and the second where the first are equal
same_first : (n r s : ℕ) → ltb (n + r) (n + s) ≡ ltb r s
same_first n r s =
    by_test (ltb r s) (λ e. let h = ltb-true r s e in rw e (lt-ltb (n + r) (n + s) (omega arith)))
    (λ e. let h = ltb-false r s e in rw e (le-ltb (n + r) (n + s) (omega arith)))

pub digits_order : (a b r s m : ℕ) → r < m → s < m → ltb (a * m + r) (b * m + s) ≡ first_then a b (ltb r s)
digits_order a b r s m rh sh =
    by_test (ltb a b)
    (λ e. let h : a * m + r < b * m = digits_lt (ltb-true a b e) rh in
    rw e (lt-ltb (a * m + r) (b * m + s) (omega arith)))
    (λ e. by_test (ltb b a)
    (λ e'. let h : b * m + s < a * m = digits_lt (ltb-true b a e') sh in
    let g = ltb-true b a e' in
    rw (e, ne_eqb a b (λ q. omega arith)) (le-ltb (a * m + r) (b * m + s) (omega arith)))
    (λ e'. let g = ltb-false a b e in
    let g' = ltb-false b a e' in
    let q : a ≡ b = omega arith in
    rw (e, eq-eqb a b q) (ap (λ (n : ℕ). ltb (n * m + r) (b * m + s)) q ∙ same_first (b * m) r s)))

-- timestamps by counter, then client: the order of their numbers
pub earlier_is : (pair other : Pair) → earlier pair other ≡ ltb (stamp pair) (stamp other)
unfolding earlier
earlier_is pair other =
    rw (stamp_is pair, stamp_is other)
    (sym (digits_order (counter pair).0 (counter other).0 (client pair) (client other) (2 ^ client_bits)
    (client_fits pair) (client_fits other)))

-- pairs by counter, then client, then entry: the order of their numbers
rest_fits : (pair : Pair) → client pair * 2 ^ client_at + (entry pair).0 < 2 ^ counter_at
rest_fits pair = digits_lt {c = 2 ^ entry_bits} (client_fits pair) (entry_fits pair)

three_parts : (pair : Pair)
    → (counter pair).0 * 2 ^ counter_at + (client pair * 2 ^ client_at + (entry pair).0) ≡ pair.0
unfolding counter client entry
three_parts pair = omega arith

pub lower_is : (pair other : Pair) → lower pair other ≡ below pair other
unfolding lower
lower_is pair other =
    let first =
    digits_order (counter pair).0 (counter other).0 (client pair * 2 ^ client_at + (entry pair).0)
    (client other * 2 ^ client_at + (entry other).0) (2 ^ counter_at) (rest_fits pair) (rest_fits other) in
    let second =
    digits_order (client pair) (client other) (entry pair).0 (entry other).0 (2 ^ entry_bits)
    (entry_fits pair) (entry_fits other) in
    ap (λ (t : Bool). first_then (counter pair).0 (counter other).0 t) (sym second) ∙ sym first
    ∙ rw (three_parts pair, three_parts other)
