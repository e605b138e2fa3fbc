-- A message of a kind that clients or servers send, with its fields in their widths, is well formed and goes
-- its way; and one that is well formed and goes a way is of a kind that is sent that way.
--
-- Why: kind by kind, the bounds of the fields are the widths of the format; the other kinds are not sent.
-- Assumes nothing.
use Rattle.basics.proofs.Prelude.{◌≡◌, refl, true, false, ◌&&◌, ◌^◌, ltb, ltb-true, lt-ltb}
use Rattle.std.specs.Prelude.{Ok}
use Rattle.basics.proofs.Cases.{both, true_or_false}
use Rattle.register.proofs.Vocabulary.{Message, GetInfo, Info, Done, WriteInfo, Fwd, WriteAck}
use Rattle.register.proofs.Vocabulary.{well_formed, goes, tag_bits, pair_bits, FromClient, FromServer}
use Rattle.message.specs.Pair.{counter_bits}

-- ---- from clients

pub client_suits : (message : Message) → FromClient message → well_formed message && goes false (Ok message)
    ≡ true
unfolding well_formed goes
client_suits (GetInfo number) h = rw (lt-ltb number.0 (2 ^ tag_bits) h)
client_suits (Info number pair) h = absurd h
client_suits Done h = refl
client_suits (WriteInfo pair) h = rw (lt-ltb pair.0 (2 ^ pair_bits) h)
client_suits (Fwd pair) h = absurd h
client_suits (WriteAck counter) h = absurd h

pub client_message : (message : Message) → FromClient message → well_formed message ≡ true
client_message message h = (both (well_formed message) (goes false (Ok message)) (client_suits message h)).0

pub goes_up_lem : (message : Message) → well_formed message ≡ true → goes false (Ok message) ≡ true
    → FromClient message
unfolding well_formed goes
goes_up_lem (GetInfo number) well way = ltb-true number.0 (2 ^ tag_bits) well
goes_up_lem (Info number pair) well way = absurd (true_or_false false way refl)
goes_up_lem Done well way = tt
goes_up_lem (WriteInfo pair) well way = ltb-true pair.0 (2 ^ pair_bits) well
goes_up_lem (Fwd pair) well way = absurd (true_or_false false way refl)
goes_up_lem (WriteAck counter) well way = absurd (true_or_false false way refl)

-- ---- from servers

pub server_suits : (message : Message) → FromServer message → well_formed message && goes true (Ok message)
    ≡ true
unfolding well_formed goes
server_suits (GetInfo number) h = absurd h
server_suits (Info number pair) h =
    rw (lt-ltb number.0 (2 ^ tag_bits) h.0, lt-ltb pair.0 (2 ^ pair_bits) h.1)
server_suits Done h = absurd h
server_suits (WriteInfo pair) h = absurd h
server_suits (Fwd pair) h = rw (lt-ltb pair.0 (2 ^ pair_bits) h)
server_suits (WriteAck counter) h = rw (lt-ltb counter.0 (2 ^ counter_bits) h)

pub server_message : (message : Message) → FromServer message → well_formed message ≡ true
server_message message h = (both (well_formed message) (goes true (Ok message)) (server_suits message h)).0

pub goes_down_lem : (message : Message) → well_formed message ≡ true → goes true (Ok message) ≡ true
    → FromServer message
unfolding well_formed goes
goes_down_lem (GetInfo number) well way = absurd (true_or_false false way refl)
goes_down_lem (Info number pair) well way =
    let b = both (ltb number.0 (2 ^ tag_bits)) (ltb pair.0 (2 ^ pair_bits)) well in
    (ltb-true number.0 (2 ^ tag_bits) b.0, ltb-true pair.0 (2 ^ pair_bits) b.1)
goes_down_lem Done well way = absurd (true_or_false false way refl)
goes_down_lem (WriteInfo pair) well way = absurd (true_or_false false way refl)
goes_down_lem (Fwd pair) well way = ltb-true pair.0 (2 ^ pair_bits) well
goes_down_lem (WriteAck counter) well way = ltb-true counter.0 (2 ^ counter_bits) well
