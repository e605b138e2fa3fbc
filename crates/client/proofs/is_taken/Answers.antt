-- `is_taken`: FWD, WRITE_ACK and INFO by their tests, on the phase and the read number of the memory, which
-- are the client's; another kind is not taken.
-- Assumes nothing.
use Rattle.client.proofs.Lent.{fwd_taken, ack_taken, info_taken}
use Rattle.client.proofs.Others.{none_taken}
use Rattle.client.proofs.is_taken.Goals as goal

pub returns-in-Fwd : goal.returns-in-Fwd
returns-in-Fwd c = search fwd_taken

pub returns-in-WriteAck : goal.returns-in-WriteAck
returns-in-WriteAck c = search ack_taken

pub returns-in_default-message-2 : goal.returns-in_default-message-2
returns-in_default-message-2 c =
    none_taken _ _ _ c.in_default-message-2.not-Info c.in_default.not-Fwd c.in_default-message.not-WriteAck

pub returns : goal.returns
returns c = search info_taken
