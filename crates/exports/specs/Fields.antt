-- A message in five numbers, kind, tag, counter, client and entry, and what packing and unpacking answer in
-- numbers.
--
-- In order: the message of five numbers; the five numbers of a message; packing; unpacking. An answer is 0,
-- or the refusal's number, and what is refused leaves lent memory as it was.
-- Assumes nothing.
use Rattle.std.specs.Prelude.{ℕ, ◌^◌, Bool, cond, List, [], ◌∷◌, ltb, get_or, Ok, Err}
use Rattle.basics.specs.Tests.{all_pass}
use Rattle.refusal.specs.Numbers.{number_of}
use Rattle.message.specs.declared.Message.{Message}
use Rattle.message.specs.declared.Message.TheVariants as kinds
use Rattle.message.specs.Layout.{Unpacked}
use Rattle.message.specs.Layout.{kind_bits, tag_bits, counter_bits, client_bits, entry_bits, joined, malformed}
use Rattle.message.specs.Layout.{message_of}
use Rattle.message.specs.Packing.{pack_answer, pack_leaves}
use Rattle.message.specs.Pair.{counter, client, entry}
use Rattle.exports.specs.Status.{status_of}

-- ---- the message of five numbers: that of the number that they join to, if none is over its width

abbrev pub width_tests : ℕ → ℕ → ℕ → ℕ → ℕ → List Bool
width_tests kind tag count d content =
    ltb kind (2 ^ kind_bits)
    ∷ ltb tag (2 ^ tag_bits)
    ∷ ltb count (2 ^ counter_bits)
    ∷ ltb d (2 ^ client_bits)
    ∷ ltb content (2 ^ entry_bits)
    ∷ []

unfoldable pub message_by : ℕ → ℕ → ℕ → ℕ → ℕ → Unpacked
message_by kind tag count d content =
    cond (all_pass (width_tests kind tag count d content)) (message_of (joined kind tag count d content))
    malformed

abbrev pub message_in : List ℕ → Unpacked
message_in numbers =
    message_by (get_or numbers 0 0) (get_or numbers 1 0) (get_or numbers 2 0) (get_or numbers 3 0) (get_or numbers 4 0)

-- ---- the five numbers of a message: a field that it does not use is zero

unfoldable pub fields_of : Message → List ℕ
fields_of (kinds.GetInfo tag) = 1 ∷ tag.0 ∷ 0 ∷ 0 ∷ 0 ∷ []
fields_of (kinds.Info tag pair) = 2 ∷ tag.0 ∷ (counter pair).0 ∷ client pair ∷ (entry pair).0 ∷ []
fields_of kinds.Done = 3 ∷ 0 ∷ 0 ∷ 0 ∷ 0 ∷ []
fields_of (kinds.WriteInfo pair) = 4 ∷ 0 ∷ (counter pair).0 ∷ client pair ∷ (entry pair).0 ∷ []
fields_of (kinds.Fwd pair) = 5 ∷ 0 ∷ (counter pair).0 ∷ client pair ∷ (entry pair).0 ∷ []
fields_of (kinds.WriteAck count) = 6 ∷ 0 ∷ count.0 ∷ 0 ∷ 0 ∷ []

-- ---- packing

abbrev pub packed_number : Unpacked → List ℕ → ℕ
packed_number (Ok message) out = status_of (pack_answer message out)
packed_number (Err why) out = number_of why

abbrev pub packed_bytes : Unpacked → List ℕ → List ℕ
packed_bytes (Ok message) out = pack_leaves message out
packed_bytes (Err why) out = out

-- ---- unpacking

abbrev pub unpacked_fields : Unpacked → List ℕ → List ℕ
unpacked_fields (Ok message) fields = fields_of message
unpacked_fields (Err why) fields = fields
