-- `put_digits`: the loop keeps the digits behind place i written.
use Rattle.basics.proofs.Prelude.{refl, ap, set, ℕ, ◌+◌, ◌-◌, arith}
use Rattle.script.proofs.Trailing.{none_yet, one_more, all_written}
use Rattle.script.proofs.print.put_digits.Goals as goal

pub loop-i-init : goal.loop-i-init
loop-i-init c = none_yet 16 c.args.out.now c.args.at c.args.count c.args.value

pub loop-i-preserved : goal.loop-i-preserved
loop-i-preserved c =
    let loop = c.loop-i in
    let place : ℕ = c.args.at + (loop.i - 1) in
    one_more c.requires (loop.i - 1) (omega arith)
    (ap (λ (d : ℕ). set loop.out place d) c.hex_digit.ensures) loop.invariant

pub returns : goal.returns
returns c = all_written c.requires (omega arith) refl c.loop-i.invariant
