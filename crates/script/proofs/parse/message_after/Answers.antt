-- `message_after`: 22 digits are a message when their first 6 and their last 16 are numbers.
use Rattle.basics.proofs.Prelude.{arith}
use Rattle.script.proofs.Halves.{both_are}
use Rattle.script.proofs.parse.message_after.Goals as goal

pub returns : goal.returns
returns c =
    both_are c.args.k c.args.d c.args.text.now (omega arith) c.hex_in.result c.hex_in.ensures c.hex_in-2.result
    c.hex_in-2.ensures c.in_ok-high.was c.in_ok-low.was
