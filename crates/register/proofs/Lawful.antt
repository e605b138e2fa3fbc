-- What the proofs ask of the formats: a licence entry has 40 bits, and an unpacked message has its fields
-- in their widths.
-- Assumes nothing.
use Rattle.basics.proofs.Prelude.{◌≡◌, true, List, ℕ, ◌^◌, ◌<◌}
use Rattle.register.proofs.Vocabulary.{Formats, Ok}
use Rattle.register.proofs.Vocabulary.{Entry, Message, GetInfo, Info, Done, WriteInfo, Fwd, WriteAck}

-- tags and counters have 20 bits, pairs 64
abbrev pub FieldsFit : Message → Type 0
FieldsFit (GetInfo tag) = tag.0 < 2 ^ 20
FieldsFit (Info tag pair) = (tag.0 < 2 ^ 20) × (pair.0 < 2 ^ 64)
FieldsFit Done = Unit {0}
FieldsFit (WriteInfo pair) = pair.0 < 2 ^ 64
FieldsFit (Fwd pair) = pair.0 < 2 ^ 64
FieldsFit (WriteAck count) = count.0 < 2 ^ 20

pub record Lawful (judge : Formats) : Type 0 where
  pub small : (entry : Entry) → judge.is_licence entry ≡ true → entry.0 < 2 ^ 40
  pub fits : (bytes : List ℕ) (message : Message) → judge.unpack bytes ≡ Ok message → FieldsFit message
