-- `receive`: WRITE_ACK, or what `receive_pair` does.
-- Assumes nothing.
use Rattle.client.proofs.Others.{as_pair}
use Rattle.client.proofs.receive.Goals as goal

pub returns-in_default : goal.returns-in_default
returns-in_default c = as_pair c.args.client c.args.replies.now c.args.k c.args.message _ c.in_default.not-WriteAck c.receive_pair.ensures
