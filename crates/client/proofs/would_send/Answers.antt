-- `would_send`: what is done with a copy of the replies, which are the rest of the memory.
-- Assumes nothing.
use Rattle.client.proofs.Lent.{memory_long, lent_sound, copy_sends}
use Rattle.client.proofs.would_send.Goals as goal

pub copied-trial-requires : goal.copied-trial-requires
copied-trial-requires c = search memory_long

pub foreseen-requires : goal.foreseen-requires
foreseen-requires c = let lent = c.copied-trial.ensures in search lent_sound

pub returns : goal.returns
returns c = let lent = c.copied-trial.ensures in search copy_sends
