-- Timestamps and pairs (01, section 'Message').
--
-- A pair is one number of 64 bits: counter 20, client 4, entry 40, most significant first. So the order of
-- pairs, by counter, then client, then entry, is the order of their numbers, and that of timestamps is the
-- order of the first 24 bits.
--
-- In order: the widths and places of the parts; the parts of a pair; a pair of its parts; the initial pair;
-- the orders.
-- Assumes nothing.
use Rattle.std.specs.Prelude.{ℕ, ◌+◌, ◌*◌, ◌/◌, ◌%◌, ◌^◌, Bool, eqb, ltb}
use Rattle.message.specs.declared.Entry.{Entry}
use Rattle.message.specs.declared.Pair.{Pair}
use Rattle.message.specs.declared.WriteCounter.{WriteCounter}

-- how many bits each part has, the timestamp, and the pair
abbrev pub counter_bits : ℕ
counter_bits = 20

abbrev pub client_bits : ℕ
client_bits = 4

abbrev pub entry_bits : ℕ
entry_bits = 40

abbrev pub stamp_bits : ℕ
stamp_bits = counter_bits + client_bits

abbrev pub pair_bits : ℕ
pair_bits = stamp_bits + entry_bits

-- how many bits stand behind the client, and behind the counter
abbrev pub client_at : ℕ
client_at = entry_bits

abbrev pub counter_at : ℕ
counter_at = client_at + client_bits

-- the counter, half of the timestamp
unfoldable pub counter : Pair → WriteCounter
counter pair = record { 0 = pair.0 / 2 ^ counter_at }

-- the client that wrote it (01: desk), the other half
unfoldable pub client : Pair → ℕ
client pair = pair.0 / 2 ^ client_at % 2 ^ client_bits

-- the entry
unfoldable pub entry : Pair → Entry
entry pair = record { 0 = pair.0 % 2 ^ entry_bits }

-- the timestamp as one number, counter * 16 + client
unfoldable pub stamp : Pair → ℕ
stamp pair = pair.0 / 2 ^ client_at

-- the pair of a counter, a client and an entry
unfoldable pub pair_of : WriteCounter → ℕ → Entry → Pair
pair_of count d content = record { 0 = count.0 * 2 ^ counter_at + d * 2 ^ client_at + content.0 }

-- the initial pair (01: the start): the empty entry at counter 0, client 0
abbrev pub initial : Pair
initial = record { 0 = 0 }

-- the order of pairs: by timestamp, then by entry
abbrev pub below : Pair → Pair → Bool
below pair other = ltb pair.0 other.0

-- the same pair
abbrev pub same : Pair → Pair → Bool
same pair other = eqb pair.0 other.0
