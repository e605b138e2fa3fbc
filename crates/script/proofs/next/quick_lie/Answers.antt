-- `quick_lie`: a short number, a blank and 22 hexadecimal digits with the line's end behind them.
use Rattle.basics.proofs.Prelude.{sym, ◌∙◌, arith}
use Rattle.script.proofs.Rest.{lie_is}
use Rattle.script.proofs.Short.{next_most}
use Rattle.script.proofs.next.quick_lie.Goals as goal

pub returns : goal.returns
returns c =
    let first = c.in_ok-client.ensures in
    lie_is c.args.text.now c.args.k _ _ _ (omega (arith, next_most first)) c.if-text-end-ne-NEWLINE.false
    (sym c.message_after.ensures ∙ c.in_ok-line.was) first
