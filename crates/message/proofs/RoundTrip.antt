-- Packing and unpacking undo each other: no bytes but a message's own unpack to it.
--
-- A message within its widths is found again in its number (`Numbers.found`), and eleven bytes spell that
-- number, so its bytes unpack to it (`unpack_pack`). Conversely bytes are those of the number that they
-- spell, and a message found in a number has that very number (`Numbers.only`), so what is unpacked packs
-- into the bytes that it was unpacked from (`pack_unpack`).
-- Assumes nothing.
use Rattle.basics.proofs.Prelude.{◌≡◌, sym, ap, ◌∙◌, true, ◌&&◌, List, length, ℕ, ◌^◌, ◌<◌, arith, eqb}
use Rattle.basics.proofs.Prelude.{eqb-true, eq-eqb}
use Rattle.std.specs.Prelude.{Ok}
use lib.Pow.{are_bytes, split}
use Rattle.basics.specs.Bytes.{big_endian, spelt}
use Rattle.basics.proofs.Bytes.{bytes_length, bytes_are, spelt_is, bytes_back}
use Rattle.basics.proofs.Cases.{by_test, both}
use Rattle.message.specs.declared.Message.{Message}
use Rattle.message.specs.Layout.{message_bytes, number_of, malformed, message_of, well_formed, bytes_of}
use Rattle.message.specs.Layout.{unpack_of, words, words_number, words_of}
use Rattle.message.specs.Pair.{pair_bits}
use Rattle.message.proofs.Numbers.{number_words, head_lt, low_lt, found, only, no_message}
use Rattle.message.proofs.Numbers.{words_number_lem}

-- every message's number has 88 bits
pub number_lt : (message : Message) → number_of message < 256 ^ message_bytes
number_lt message = omega (arith, number_words message, head_lt message, low_lt message)

-- eleven bytes are tested no further
pub unpack_bytes : (bytes : List ℕ) → length bytes ≡ message_bytes → are_bytes bytes ≡ true
    → unpack_of bytes ≡ message_of (spelt 0 bytes)
unfolding unpack_of
unpack_bytes bytes eleven small = rw (eq-eqb (length bytes) message_bytes eleven, small)

-- a message within its widths packs into eleven bytes
pub packed_length : (message : Message) → length (bytes_of message) ≡ message_bytes
packed_length message = bytes_length message_bytes (number_of message)

-- .. that unpack to it
pub unpack_pack : (message : Message) → well_formed message ≡ true → unpack_of (bytes_of message) ≡ Ok message
unpack_pack message within =
    unpack_bytes (bytes_of message) (packed_length message) (bytes_are message_bytes (number_of message))
    ∙ ap message_of (spelt_is message_bytes (number_of message) (number_lt message)) ∙ found message within

-- numbers that unpack to a message are its packing, and it is within its widths
pub record Unpacks (bytes : List ℕ) (message : Message) : Type 0 where
  pub packing : bytes_of message ≡ bytes
  pub within : well_formed message ≡ true

pub pack_unpack : (bytes : List ℕ) (message : Message) → unpack_of bytes ≡ Ok message → Unpacks bytes message
unfolding unpack_of
pack_unpack bytes message e =
    by_test (eqb (length bytes) message_bytes && are_bytes bytes)
    (λ t. let p = both (eqb (length bytes) message_bytes) (are_bytes bytes) t in
    let eleven : length bytes ≡ message_bytes = eqb-true (length bytes) message_bytes p.0 in
    let f = only (spelt 0 bytes) message (rw t at e) in
    record {
      packing =
          ap (λ (n : ℕ). big_endian message_bytes n) f.number
          ∙ ap (λ (k : ℕ). big_endian k (spelt 0 bytes)) (sym eleven) ∙ bytes_back 0 bytes p.1;
      within = f.within;
    })
    (λ t. absurd (no_message message (rw t at e)))

-- so a message unpacks from one list only, and one list to one message only
pub one_packing : (bytes others : List ℕ) (message : Message) → unpack_of bytes ≡ Ok message
    → unpack_of others ≡ Ok message → bytes ≡ others
one_packing bytes others message p q =
    sym (pack_unpack bytes message p).packing ∙ (pack_unpack others message q).packing

-- what is refused is no message's packing
pub refused_none : (bytes : List ℕ) (message : Message) → unpack_of bytes ≡ malformed
    → well_formed message ≡ true → bytes_of message ≡ bytes → ⊥
refused_none bytes message bad within e =
    no_message message (sym bad ∙ ap unpack_of (sym e) ∙ unpack_pack message within)

-- ---- by words: what `words_of`, `store`, `load` and `of_words` do one after the other

-- its packing spells its number
pub packing_spells : (message : Message) → spelt 0 (bytes_of message) ≡ number_of message
packing_spells message = spelt_is message_bytes (number_of message) (number_lt message)

-- its words are its own
pub of_words_of : (message : Message) → well_formed message ≡ true
    → message_of (words_number (words_of message)) ≡ Ok message
of_words_of message within = ap message_of (words_number_lem message) ∙ found message within

-- the words of eleven bytes hold the message that the bytes unpack to
pub of_words_unpacks : (bytes : List ℕ) → length bytes ≡ message_bytes → are_bytes bytes ≡ true
    → message_of (words_number (words (spelt 0 bytes))) ≡ unpack_of bytes
of_words_unpacks bytes eleven small =
    ap message_of (split (spelt 0 bytes) pair_bits) ∙ sym (unpack_bytes bytes eleven small)
