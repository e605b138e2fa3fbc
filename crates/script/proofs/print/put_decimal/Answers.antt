-- `put_decimal`: the loop keeps the digits behind place i written. Where one is rest at its end, the first
-- digit is written too.
use Rattle.basics.proofs.Prelude.{◌≡◌, refl, sym, List, length, set, ℕ, ◌+◌, ◌-◌, ◌/◌, ◌%◌, ◌≤◌}
use Rattle.basics.proofs.Prelude.{arith}
use Rattle.script.specs.Numbers.{digits_of, digit_count, decimal}
use Rattle.script.proofs.Digits.{digits_length, digit_below_ten}
use Rattle.script.proofs.Trailing.{Trailing, none_yet, wide, one_more, two_more, all_written}
use Rattle.script.proofs.Writing.{named}
use Rattle.script.proofs.print.put_decimal.Goals.{then-i-eq1, else-i-eq1}
use Rattle.script.proofs.print.put_decimal.Goals as goal

-- the digits fit
room : (value count at size : ℕ) → at + length (decimal value) ≤ size → count ≡ digit_count 19 value → at + count ≤ size
room value count at size h is = omega (arith, is, digits_length 10 (digit_count 19 value) value)

pub loop-i-init : goal.loop-i-init
loop-i-init c = none_yet 10 c.args.out.now c.args.at c.digit_count-count.result c.args.value

pub overflow_add-at : goal.overflow_add-at
overflow_add-at c =
    omega (arith, room c.args.value c.digit_count-count.result c.args.at _ c.requires c.digit_count-count.ensures)

pub put_two-requires : goal.put_two-requires
put_two-requires c =
    let room = room c.args.value c.digit_count-count.result c.args.at _ c.requires c.digit_count-count.ensures in
    rw (wide room c.loop-i.invariant) (omega (arith, room))

pub loop-i-preserved : goal.loop-i-preserved
loop-i-preserved c =
    let room = room c.args.value c.digit_count-count.result c.args.at _ c.requires c.digit_count-count.ensures in
    two_more (c.loop-i.i - 2) room (omega arith) c.put_two.ensures c.loop-i.invariant

pub bounds-out-at : goal.bounds-out-at
bounds-out-at c =
    let room = room c.args.value c.digit_count-count.result c.args.at _ c.requires c.digit_count-count.ensures in
    rw (wide room c.loop-i.invariant) (omega (arith, room))

pub overflow_add-result : goal.overflow_add-result
overflow_add-result c =
    omega (arith, room c.args.value c.digit_count-count.result c.args.at _ c.requires c.digit_count-count.ensures)

-- where one digit is rest, it is written
alone : {before out after : List ℕ} {at n value rest i : ℕ} → at + n ≤ length before → i ≡ 1
    → after ≡ set out at (48 + rest % 10)
    → Trailing 10 before at n value out rest i → Trailing 10 before at n value after (rest / 10) 0
alone {at} {rest} fits e is t =
    let here : at + 0 ≡ at = omega arith in
    one_more fits 0 e (rw (here, ← digit_below_ten (rest % 10) (omega arith)) is) t

pub returns : goal.returns
returns c =
    let room = room c.args.value c.digit_count-count.result c.args.at _ c.requires c.digit_count-count.ensures in
    named (λ n. digits_of 10 n c.args.value) (sym c.digit_count-count.ensures)
    (elim c.if-i-eq1.branch [
      | then-i-eq1 w ↦ all_written room refl refl (alone room w.if-i-eq1.true w.out-is c.loop-i.invariant)
      | else-i-eq1 w ↦ all_written room (omega arith) w.out-is c.loop-i.invariant
    ])
