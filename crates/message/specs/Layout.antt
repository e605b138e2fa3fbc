-- The eleven bytes of a message (01, section 'Message').
--
-- They are one number of 88 bits, most significant first: kind 4, tag 20, counter 20, client 4, entry 40.
--
-- In order: the fields and their places; the number of a message; the message of a number; which messages
-- are replies, and which keep to their widths; the bytes, packed and unpacked; the number in two words. What
-- packing answers is in `Packing`.
-- Assumes nothing.
use Rattle.std.specs.Prelude.{ℕ, ◌+◌, ◌-◌, ◌*◌, ◌/◌, ◌%◌, ◌^◌, Bool, true, false, cond, not, ◌&&◌, List, [], ◌∷◌, eqb, ltb, length}
use Rattle.std.specs.Prelude.{Result, Ok, Err}
use Rattle.std.proofs.Math.Pow.{are_bytes}
use Rattle.basics.specs.Bytes.{big_endian, spelt}
use Rattle.basics.specs.Fields.{Place, field, placed}
use Rattle.refusal.specs.declared.Refusal.{Refusal}
use Rattle.refusal.specs.Numbers.{numbered}
use Rattle.message.specs.declared.Message.{Message}
use Rattle.message.specs.declared.Message.TheVariants.{GetInfo, Info, Done, WriteInfo, Fwd, WriteAck}
use Rattle.message.specs.declared.Pair.{Pair}
use Rattle.message.specs.declared.ReadNumber.{ReadNumber}
use Rattle.message.specs.declared.Words.{Words}
use Rattle.message.specs.declared.WriteCounter.{WriteCounter}
use Rattle.message.specs.Pair.{pair_bits, client_at, counter_at, counter, client, entry, pair_of}
pub use Rattle.message.specs.Pair.{counter_bits, client_bits, entry_bits}

-- ---- the fields

-- how many bits kind and tag have; the others are those of a pair
abbrev pub kind_bits : ℕ
kind_bits = 4

abbrev pub tag_bits : ℕ
tag_bits = 20

-- the highest read number (the tag is one), and the highest write counter
abbrev pub last_read : ℕ
last_read = 2 ^ tag_bits - 1

abbrev pub last_counter : ℕ
last_counter = 2 ^ counter_bits - 1

-- how many bits stand behind the tag, which are the pair's, and behind the kind
abbrev pub tag_at : ℕ
tag_at = pair_bits

abbrev pub kind_at : ℕ
kind_at = tag_at + tag_bits

-- how many bits stand before the pair's: those of a message's first word
abbrev pub head_bits : ℕ
head_bits = kind_bits + tag_bits

-- the bytes of a message: 11
abbrev pub message_bytes : ℕ
message_bytes = (kind_at + kind_bits) / 8

-- where each field stands
abbrev pub tag_place : Place
tag_place = record { width = tag_bits; offset = tag_at }

abbrev pub counter_place : Place
counter_place = record { width = counter_bits; offset = counter_at }

abbrev pub client_place : Place
client_place = record { width = client_bits; offset = client_at }

abbrev pub entry_place : Place
entry_place = record { width = entry_bits; offset = 0 }

-- the fields of a number; the kind is all that stands before the others
abbrev pub kind_of : ℕ → ℕ
kind_of number = number / 2 ^ kind_at

abbrev pub tag_of : ℕ → ℕ
tag_of = field tag_place

abbrev pub counter_of : ℕ → ℕ
counter_of = field counter_place

abbrev pub client_of : ℕ → ℕ
client_of = field client_place

abbrev pub entry_of : ℕ → ℕ
entry_of = field entry_place

-- the last bits of a value, as many as a place has, moved to it
abbrev pub last_bits : Place → ℕ → ℕ
last_bits place value = placed place (value % 2 ^ place.width)

-- ---- the number of a message

-- the number of a kind and its fields: tag, counter, client, entry
abbrev pub joined : ℕ → ℕ → ℕ → ℕ → ℕ → ℕ
joined kind tag count d content =
    kind * 2 ^ kind_at + last_bits tag_place tag + last_bits counter_place count
    + last_bits client_place d + last_bits entry_place content

-- 'Kinds and the fields they use .. A field not used is zero.'
unfoldable pub number_of : Message → ℕ
number_of (GetInfo tag) = joined 1 tag.0 0 0 0
number_of (Info tag pair) = joined 2 tag.0 (counter pair).0 (client pair) (entry pair).0
number_of Done = joined 3 0 0 0 0
number_of (WriteInfo pair) = joined 4 0 (counter pair).0 (client pair) (entry pair).0
number_of (Fwd pair) = joined 5 0 (counter pair).0 (client pair) (entry pair).0
number_of (WriteAck count) = joined 6 0 count.0 0 0

-- ---- the message of a number

-- the fields as what they mean
abbrev pub read_number_of : ℕ → ReadNumber
read_number_of number = record { 0 = tag_of number }

abbrev pub write_counter_of : ℕ → WriteCounter
write_counter_of number = record { 0 = counter_of number }

abbrev pub pair_in : ℕ → Pair
pair_in number = pair_of (write_counter_of number) (client_of number) (record { 0 = entry_of number })

-- what numbers and bytes stand for: a message, or a refusal
abbrev pub Unpacked : Type 0
Unpacked = Result Message Refusal

-- what is no message is refused 9
abbrev pub malformed : Unpacked
malformed = Err (numbered 9)

-- every number of the list is zero
abbrev pub zeros : List ℕ → Bool
zeros [] = true
zeros (value ∷ values) = eqb value 0 && zeros values

-- a number of this kind is the message if the fields that the kind does not use are zero; a number of another
-- kind is `other`
abbrev pub kind : ℕ → ℕ → List ℕ → Message → Unpacked → Unpacked
kind number expected unused message other =
    cond (eqb (kind_of number) expected) (cond (zeros unused) (Ok message) malformed) other

-- kind, unused fields, and the message of the used ones
unfoldable pub message_of : ℕ → Unpacked
message_of number =
    kind number 1 (counter_of number ∷ client_of number ∷ entry_of number ∷ []) (GetInfo (read_number_of number))
    (kind number 2 [] (Info (read_number_of number) (pair_in number))
    (kind number 3 (tag_of number ∷ counter_of number ∷ client_of number ∷ entry_of number ∷ []) Done
    (kind number 4 (tag_of number ∷ []) (WriteInfo (pair_in number))
    (kind number 5 (tag_of number ∷ []) (Fwd (pair_in number))
    (kind number 6 (tag_of number ∷ client_of number ∷ entry_of number ∷ []) (WriteAck (write_counter_of number))
    malformed)))))

-- ---- kinds and widths

-- GET_INFO, DONE and WRITE_INFO go to servers; INFO, FWD and WRITE_ACK are replies, to clients
unfoldable pub is_reply : Message → Bool
is_reply (GetInfo tag) = false
is_reply (Info tag pair) = true
is_reply Done = false
is_reply (WriteInfo pair) = false
is_reply (Fwd pair) = true
is_reply (WriteAck count) = true

-- a message goes down, from a server to a client, or up to a server; what is no message goes neither way
unfoldable pub goes : Bool → Unpacked → Bool
unfolding is_reply
goes down (Ok message) = cond down (is_reply message) (not (is_reply message))
goes down (Err why) = false

abbrev pub goes_up : Unpacked → Bool
goes_up = goes false

abbrev pub goes_down : Unpacked → Bool
goes_down = goes true

-- no field of the message is over its width; those of a pair are not if its number has 64 bits
unfoldable pub well_formed : Message → Bool
well_formed (GetInfo tag) = ltb tag.0 (2 ^ tag_bits)
well_formed (Info tag pair) = ltb tag.0 (2 ^ tag_bits) && ltb pair.0 (2 ^ tag_at)
well_formed Done = true
well_formed (WriteInfo pair) = ltb pair.0 (2 ^ tag_at)
well_formed (Fwd pair) = ltb pair.0 (2 ^ tag_at)
well_formed (WriteAck count) = ltb count.0 (2 ^ counter_bits)

-- ---- the bytes

-- a message packed
abbrev pub bytes_of : Message → List ℕ
bytes_of message = big_endian message_bytes (number_of message)

-- numbers unpacked: those that are not eleven bytes are no message
unfoldable pub unpack_of : List ℕ → Unpacked
unpack_of bytes =
    cond (eqb (length bytes) message_bytes && are_bytes bytes) (message_of (spelt 0 bytes)) malformed

-- a number in two words, the pair's 64 bits and those before, and back
abbrev pub words : ℕ → Words
words number = record { 0 = number / 2 ^ tag_at; 1 = number % 2 ^ tag_at }

abbrev pub words_number : Words → ℕ
words_number pieces = pieces.0 * 2 ^ tag_at + pieces.1

-- a message in two words
unfoldable pub words_of : Message → Words
words_of message = words (number_of message)
