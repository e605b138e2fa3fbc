-- `digit_count`: the loop keeps the power of ten that so many digits stay below, and that there
-- are as many at least.
use Rattle.basics.proofs.Prelude.{◌≡◌, ℕ, suc, ◌+◌, ◌-◌, ◌*◌, ◌^◌, ◌≤◌, ◌<◌, add-one, arith, rules}
use native.Mathlib.Nat.{zero-lt-suc, pow-suc, pow-le-pow_right}
use Rattle.script.specs.Numbers.{digit_count}
use Rattle.script.proofs.Digits.{count_some, count_few, count_many, count_most}
use Rattle.script.proofs.print.digit_count.Goals as goal

pub loop-power-init : goal.loop-power-init
loop-power-init c = (search rules, search rules, omega arith, count_some 19 c.args.value)

-- in the loop the power is not above the number: there is a digit more
more : (value count power : ℕ) → count ≤ 19 → power ≡ 10 ^ count → power ≤ value → count < digit_count 19 value
more value count power few is h = count_many 19 count value few (rw is at h)

pub returns-then-count-eq20 : goal.returns-then-count-eq20
returns-then-count-eq20 c =
    let loop = c.loop-power in
    let value = c.args.value in
    omega (arith, more value loop.count loop.power loop.invariant.1 loop.invariant.2 (omega arith), count_most 19 value)

pub overflow_mul-power : goal.overflow_mul-power
overflow_mul-power c =
    let loop = c.loop-power in
    let few : 10 ^ loop.count ≤ 10 ^ 18 =
    pow-le-pow_right (zero-lt-suc 9) {i = loop.count} {j = 18} (omega arith) in
    omega arith

times_ten : (n power : ℕ) → power ≡ 10 ^ n → power * 10 ≡ 10 ^ (n + 1)
times_ten n power is = rw (is, add-one n, pow-suc 10 n)

pub loop-power-preserved : goal.loop-power-preserved
loop-power-preserved c =
    let loop = c.loop-power in
    let higher = times_ten loop.count loop.power loop.invariant.2 in
    let some_more = more c.args.value loop.count loop.power loop.invariant.1 loop.invariant.2 (omega arith) in
    (omega arith, omega arith, higher, omega (arith, some_more))

at_most : (n value : ℕ) → 1 ≤ n → value < 10 ^ n → digit_count 19 value ≤ n
at_most n value some h =
    let e : n ≡ suc (n - 1) = omega arith in
    let loop : value < 10 ^ suc (n - 1) = rw e at h in
    omega (arith, count_few 19 (n - 1) value loop)

pub returns : goal.returns
returns c =
    let loop = c.loop-power in
    let few = at_most loop.count c.args.value loop.invariant.0 (omega arith) in
    omega (arith, few)
