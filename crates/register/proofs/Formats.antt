-- This repository's formats are lawful: they have the two laws that the proof asks of them.
--
-- Why: a licence entry has 40 bits, and what unpacks is well formed, so its fields are in their widths.
-- Assumes nothing.
use Rattle.basics.proofs.Prelude.{◌≡◌, true, ◌^◌, ltb, ltb-true}
use Rattle.basics.proofs.Cases.{both}
use Rattle.licence.proofs.Entries.{is_licence_small}
use Rattle.message.specs.Layout.{well_formed}
use Rattle.message.proofs.RoundTrip.{pack_unpack}
use Rattle.register.specs.Formats.{formats}
use Rattle.register.proofs.Vocabulary.{Message, GetInfo, Info, Done, WriteInfo, Fwd, WriteAck}
use Rattle.register.proofs.Lawful.{FieldsFit, Lawful}

fields_fit : (message : Message) → well_formed message ≡ true → FieldsFit message
unfolding well_formed
fields_fit (GetInfo tag) h = ltb-true tag.0 (2 ^ 20) h
fields_fit (Info tag pair) h =
    let b = both (ltb tag.0 (2 ^ 20)) (ltb pair.0 (2 ^ 64)) h in
    (ltb-true tag.0 (2 ^ 20) b.0, ltb-true pair.0 (2 ^ 64) b.1)
fields_fit Done h = tt
fields_fit (WriteInfo pair) h = ltb-true pair.0 (2 ^ 64) h
fields_fit (Fwd pair) h = ltb-true pair.0 (2 ^ 64) h
fields_fit (WriteAck count) h = ltb-true count.0 (2 ^ 20) h

pub lawful : Lawful formats
lawful =
    record {
      small = λ entry h. is_licence_small entry.0 h;
      fits = λ bytes message e. fields_fit message (pack_unpack bytes message e).within;
    }
