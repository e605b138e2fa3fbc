-- `receive_pair`: what is collected leads to the choice; otherwise nothing follows.
-- Assumes nothing.
use Rattle.client.proofs.Taking.{collected_reading, dropped}
use Rattle.client.proofs.receive_pair.Goals as goal

pub returns-then-not-collect : goal.returns-then-not-collect
returns-then-not-collect c = search dropped

pub follow_choice-requires : goal.follow_choice-requires
follow_choice-requires c =
    (c.collect.ensures.sound, collected_reading _ _ _ _ _ _ c.collect.ensures c.if-not-collect.false)
