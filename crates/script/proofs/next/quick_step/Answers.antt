-- `quick_step`: the letter, the blank and the number make the line, with what stands behind them.
use Rattle.basics.proofs.Prelude.{sym, arith}
use Rattle.std.proofs.lemmas.Option.{IfSome_then}
use Rattle.script.proofs.Quick.{found_l}
use Rattle.script.proofs.next.quick_step.Goals as goal

pub returns-then-letter-eq76 : goal.returns-then-letter-eq76
returns-then-letter-eq76 c =
    IfSome_then c.quick_lie.result c.quick_lie.ensures
    (λ found lie. sym (found_l c.args.text.now c.args.at _ _ (omega arith) c.if-text-at-ne32.false
    c.in_ok-first.ensures c.if-letter-eq76.true found lie))
