-- `numeral_of`: the digits of the hundreds are written if they are kept; else none are.
use Rattle.basics.proofs.Prelude.{sym, ap, ◌∙◌, List, length, replicate, ℕ, ◌/◌, ◌%◌, ◌<◌}
use Rattle.basics.proofs.Prelude.{zero-add, arith}
use Rattle.script.specs.Numbers.{decimal}
use Rattle.script.specs.Writing.{written}
use Rattle.script.specs.Numerals.{numeral_of}
use Rattle.script.proofs.Hundreds.{decimal_few, kept_all}
use Rattle.script.proofs.print.numeral_of.Goals as goal

pub put_decimal-kept-requires : goal.put_decimal-kept-requires
put_decimal-kept-requires c =
    let hundreds = c.args.value / 100 in
    omega (arith, decimal_few hundreds (omega arith))

pub returns-then-hundreds-lt-SEVEN_DIGITS : goal.returns-then-hundreds-lt-SEVEN_DIGITS
unfolding numeral_of
returns-then-hundreds-lt-SEVEN_DIGITS c =
    let value = c.args.value in
    let few : value / 100 < 1000000 = omega arith in
    let writing = c.put_decimal-kept.ensures in
    let all = sym (kept_all (value / 100) (omega arith) few) in
    let text = writing.holds ∙ ap (λ (l : List ℕ). written (replicate 8 0) 0 l) all in
    let kept = writing.ends ∙ zero-add (length (decimal (value / 100))) ∙ ap length all in
    λ i. record { number = value; text = text i; kept = kept i; last_two = value % 100 }
