-- The digests of packing and unpacking messages at the edges of every field.
--
-- In order: a message; bytes unpacked, and a buffer packed into; the patterns of a kind, each also a byte too
-- short and too long; messages of a kind, some with a field over its width, packed into buffers of 0 to 13
-- bytes.
-- A reader of the public contracts needs none of it.
-- Assumes nothing.
use Rattle.std.specs.Prelude.{ℕ, ◌+◌, ◌-◌, ◌*◌, ◌/◌, ◌%◌, ◌^◌}
use Rattle.std.specs.Prelude.{List, [], ◌∷◌, cond, eqb, get_or, take, replicate}
use Rattle.std.specs.List.{fold}
use Rattle.std.proofs.lemmas.List.Edits.{sets}
use Rattle.basics.specs.Bytes.{big_endian}
use Rattle.message.specs.declared.Message.{Message}
use Rattle.message.specs.declared.Message.TheVariants.{GetInfo, Info, Done, WriteInfo, Fwd, WriteAck}
use Rattle.message.specs.declared.Pair.{Pair}
use Rattle.message.specs.declared.Words.{Words}
use Rattle.message.specs.Pair.{client_bits, entry_bits, pair_bits, client_at, counter_at}
use Rattle.message.specs.Pair.{counter, client, entry}
use Rattle.message.specs.Layout.{tag_bits, last_read, last_counter, message_bytes, words_number, unpack_of}
use Rattle.message.specs.Packing.{pack_answer, pack_leaves}
use Rattle.sheets.specs.Digest.{mixed, answer_in, in_turn}

abbrev pub with_pair : Pair → ℕ → ℕ
with_pair pair digest = mixed (entry pair).0 (mixed (client pair) (mixed (counter pair).0 digest))

-- a message's kind and fields
abbrev pub with_message : Message → ℕ → ℕ
with_message (GetInfo tag) digest = mixed tag.0 (mixed 1 digest)
with_message (Info tag pair) digest = with_pair pair (mixed tag.0 (mixed 2 digest))
with_message Done digest = mixed 3 digest
with_message (WriteInfo pair) digest = with_pair pair (mixed 4 digest)
with_message (Fwd pair) digest = with_pair pair (mixed 5 digest)
with_message (WriteAck counter) digest = mixed counter.0 (mixed 6 digest)

unfoldable pub with_unpacked : List ℕ → ℕ → ℕ
with_unpacked bytes digest = answer_in with_message (unpack_of bytes) digest

unfoldable pub with_bytes : List ℕ → ℕ → ℕ
with_bytes bytes digest = fold (λ (before byte : ℕ). mixed byte before) digest bytes

-- what packing answers, and all that the buffer holds afterwards
unfoldable pub with_packed : Message → List ℕ → ℕ → ℕ
with_packed message bytes digest =
    let answered = answer_in (λ (packed : Unit {0}) (after : ℕ). after) (pack_answer message bytes) digest in
    with_bytes (pack_leaves message bytes) answered

-- ten, eleven and twelve bytes that begin with a number's
abbrev pub with_lengths : Words → ℕ → ℕ
with_lengths number digest =
    let bytes = sets (replicate (message_bytes + 1) 0) 0 (big_endian message_bytes (words_number number)) in
    with_unpacked bytes
    (with_unpacked (take message_bytes bytes) (with_unpacked (take (message_bytes - 1) bytes) digest))

-- the lowest of a field, one more, and the highest
abbrev pub edge_of : ℕ → ℕ → ℕ
edge_of highest i = cond (eqb i 0) 0 (cond (eqb i 1) 1 highest)

-- the i-th pattern of a kind: each field at each of its edges
abbrev pub pattern_of : ℕ → ℕ → Words
pattern_of kind i =
    record {
      0 = kind * 2 ^ tag_bits + edge_of last_read (i / 27);
      1 = edge_of last_counter (i / 9 % 3) * 2 ^ counter_at
          + edge_of (2 ^ client_bits - 1) (i / 3 % 3) * 2 ^ client_at + edge_of (2 ^ entry_bits - 1) (i % 3);
    }

abbrev pub kind_digest : ℕ → ℕ
kind_digest kind = in_turn (λ (i : ℕ). with_lengths (pattern_of kind i)) 81 0

-- a message of a kind, 6 where there is no other
unfoldable pub sample_of : ℕ → ℕ → ℕ → Message
sample_of kind number pair =
    cond (eqb kind 1) (GetInfo (record { 0 = number }))
    (cond (eqb kind 2) (Info (record { 0 = number }) (record { 0 = pair }))
    (cond (eqb kind 3) Done
    (cond (eqb kind 4) (WriteInfo (record { 0 = pair }))
    (cond (eqb kind 5) (Fwd (record { 0 = pair })) (WriteAck (record { 0 = number }))))))

-- the bytes of the longest buffer: two more than a message has
abbrev pub most_bytes : ℕ
most_bytes = message_bytes + 2

-- a message packed into buffers of 0 to 13 bytes
unfoldable pub with_buffers : Message → ℕ → ℕ
with_buffers message digest =
    in_turn (λ (n : ℕ). with_packed message (take n (replicate most_bytes 0xA5))) (most_bytes + 1) digest

-- tags and counters, two of them over their width
abbrev pub number_at : ℕ → ℕ
number_at i = get_or (0 ∷ 1 ∷ last_read ∷ (last_read + 1) ∷ (2 ^ 32 - 1) ∷ []) i 0

-- pairs, each at an edge of a field
abbrev pub pair_at : ℕ → ℕ
pair_at i =
    get_or (0 ∷ 1 ∷ (2 ^ entry_bits - 1) ∷ 2 ^ client_at ∷ 2 ^ counter_at ∷ (2 ^ pair_bits - 1) ∷ []) i 0

abbrev pub pack_digest : ℕ → ℕ
pack_digest kind =
    in_turn (λ (i : ℕ). with_buffers (sample_of kind (number_at (i / 6)) (pair_at (i % 6)))) 30 0
