-- `arguments`: the loop keeps that the numbers left, behind those that it has read, make the line.
use Rattle.basics.proofs.Prelude.{◌≡◌, ◌+◌, ◌-◌, arith}
use Rattle.script.specs.Grammar.{last_of}
use Rattle.script.proofs.Readers.{starts_within, one_read}
use Rattle.script.proofs.parse.arguments.Goals as goal

pub loop-number-preserved : goal.loop-number-preserved
loop-number-preserved c =
    let l = c.loop-number in
    let told = c.first_number.ensures in
    let all = c.leading-number-end.result in
    let one_less : all - (l._number + 1) ≡ all - l._number - 1 = omega arith in (
      starts_within c.args.text.now l.at told c.in_ok-first.first c.in_ok-first.was l.invariant.0,
      rw one_less
          (one_read c.args.text.now l.at told (all - l._number) l.earliest l.earlier l.later
          (last_of c.args.letter) _ l.invariant.1 (omega arith) c.in_ok-first.first c.in_ok-first.was),
    )
