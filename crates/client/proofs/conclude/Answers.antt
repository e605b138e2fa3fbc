-- `conclude`: a read ends; a write ends as SPENT, or stores the next counter.
-- Assumes nothing.
use Rattle.client.proofs.Facts.{client_number, writing_fits}
use Rattle.client.proofs.Outcomes.{read_ends, write_spent, counter_room, next_fits, write_goes}
use Rattle.client.proofs.conclude.Goals as goal

pub returns-in_default : goal.returns-in_default
returns-in_default c = read_ends c.args.client c.args.pair c.requires.1 c.in_default.not-ReadingForWrite _ c.ends.ensures

pub returns-then-is_last_counter : goal.returns-then-is_last_counter
returns-then-is_last_counter c = search write_spent

pub next_counter-counter-requires : goal.next_counter-counter-requires
next_counter-counter-requires c = search counter_room

pub pair_of-own-requires : goal.pair_of-own-requires
pair_of-own-requires c = (search next_fits, search client_number, search writing_fits)

pub returns : goal.returns
returns c = search write_goes
