-- `follow_choice`: nothing is chosen and nothing follows, or the replies are emptied and the chosen pair
-- leads on.
-- Assumes nothing.
use Rattle.client.proofs.Facts.{of_client}
use Rattle.client.proofs.Outcomes.{no_choice, choice_leads}
use Rattle.client.proofs.Shown.{few_servers_lem}
use Rattle.client.proofs.follow_choice.Goals as goal

pub choose-requires : goal.choose-requires
choose-requires c = search few_servers_lem

pub returns-in_default : goal.returns-in_default
returns-in_default c = search no_choice

pub conclude-requires : goal.conclude-requires
conclude-requires c = search of_client

pub returns : goal.returns
returns c = search choice_leads
