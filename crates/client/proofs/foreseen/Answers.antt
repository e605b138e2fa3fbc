-- `foreseen`: nothing where nothing is collected or chosen; else what the chosen pair leads to.
-- Assumes nothing.
use Rattle.client.proofs.Facts.{of_client}
use Rattle.client.proofs.Outcomes.{no_choice_sends, choice_sends}
use Rattle.client.proofs.Shown.{few_servers_lem}
use Rattle.client.proofs.Taking.{collected_reading, follows_sends}
use Rattle.client.proofs.foreseen.Goals as goal

pub choose-requires : goal.choose-requires
choose-requires c = let sound = c.collect.ensures.sound in search few_servers_lem

pub returns-in_default : goal.returns-in_default
returns-in_default c = let sound = c.collect.ensures.sound in search (follows_sends, no_choice_sends)

pub conclude-step-requires : goal.conclude-step-requires
conclude-step-requires c = (of_client c.args.client _ c.collect.ensures.sound, search collected_reading)

pub returns : goal.returns
returns c =
    let sound = c.collect.ensures.sound in search (follows_sends, choice_sends, collected_reading)
