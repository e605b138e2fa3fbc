-- `count_to`: one message for the sender, and one for a reader that is forwarded to. Assumes nothing.
use Rattle.basics.proofs.Prelude.{suc, arith, eqb}
use lib.Dec.{eqb-suc-suc}
use Rattle.steps.proofs.ReplyLengths.{byte_le, forward_length}
use Rattle.steps.proofs.transport.count_to.Goals as goal

pub returns : goal.returns
returns c =
    let a = c.args in (
      λ p. cc (c.is_in.ensures, eqb-suc-suc a.i a.to, forward_length (suc a.i) a.to a.set p c.requires.1),
      omega (arith, byte_le c.is_in.result, byte_le (eqb a.i a.to)),
    )
