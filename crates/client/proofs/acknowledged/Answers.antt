-- `acknowledged`: dropped unless the client stores with that counter; otherwise it is noted, and enough of
-- them end the write.
-- Assumes nothing.
use Rattle.client.proofs.Shown.{few_servers_lem, sound_number, place}
use Rattle.client.proofs.Taking.{ack_dropped, ack_counter, ack_entry, ack_waits, ack_ends}
use Rattle.client.proofs.acknowledged.Goals as goal

pub returns-then-not-is_storing_with : goal.returns-then-not-is_storing_with
returns-then-not-is_storing_with c = search ack_dropped

pub acknowledge-requires : goal.acknowledge-requires
acknowledge-requires c = search place

pub acknowledged-requires : goal.acknowledged-requires
acknowledged-requires c = search few_servers_lem

pub returns-then-not-is_enough : goal.returns-then-not-is_enough
returns-then-not-is_enough c = search ack_waits

pub pair_of-own-requires : goal.pair_of-own-requires
pair_of-own-requires c = search (ack_counter, sound_number, ack_entry)

pub returns : goal.returns
returns c = search ack_ends
