-- `collect`: INFO, FWD, or a kind that is not collected.
-- Assumes nothing.
use Rattle.client.proofs.Others.{no_pair}
use Rattle.client.proofs.Taking.{not_collected}
use Rattle.client.proofs.collect.Goals as goal

pub returns-in_default-message : goal.returns-in_default-message
returns-in_default-message c =
    not_collected _ _ _ _
    (no_pair c.args.client c.args.replies.now c.args.k c.args.message c.in_default.not-Info
    c.in_default-message.not-Fwd)
    c.requires.0
