-- Five numbers within their widths join to the number that the two words of the code have.
-- Assumes nothing.
use Rattle.basics.proofs.Prelude.{◌≡◌, sym, ap, ◌∙◌, ℕ, ◌+◌, ◌*◌, ◌%◌, ◌^◌, ◌<◌, arith, lt-ltb}
use native.Mathlib.Nat.{mod-eq_of_lt}
use lib.Bits.{bit_or, or_shifted}
use lib.Dec.{lit≤}
use lib.Pow.{shl_exact}
use Rattle.register.proofs.Vocabulary.{Pair, tag_bits, counter_bits, client_bits, entry_bits, message_of}
use Rattle.register.proofs.Vocabulary.{words_number, pair_of}
use Rattle.message.specs.Layout.{kind_bits, tag_at, joined}
use Rattle.exports.specs.Fields.{message_by}

module _ (kind tag count d content : ℕ) (narrow_kind : kind < 2 ^ kind_bits)
    (narrow_tag : tag < 2 ^ tag_bits) where
  module _ (narrow_count : count < 2 ^ counter_bits) (narrow_client : d < 2 ^ client_bits)
      (narrow_entry : content < 2 ^ entry_bits) where
    joined_is : joined kind tag count d content
        ≡ (kind * 2 ^ tag_bits + tag) * 2 ^ tag_at + (pair_of (record { 0 = count }) d (record { 0 = content })).0
    unfolding pair_of
    joined_is =
        rw (
          mod-eq_of_lt narrow_tag,
          mod-eq_of_lt narrow_count,
          mod-eq_of_lt narrow_client,
          mod-eq_of_lt narrow_entry,
        ) (omega arith)

    fitting : message_by kind tag count d content ≡ message_of (joined kind tag count d content)
    unfolding message_by
    fitting =
        rw (
          lt-ltb kind _ narrow_kind,
          lt-ltb tag _ narrow_tag,
          lt-ltb count _ narrow_count,
          lt-ltb d _ narrow_client,
          lt-ltb content _ narrow_entry,
        )

    words_are : (pair : Pair) → pair ≡ pair_of (record { 0 = count }) d (record { 0 = content })
        → words_number (record { 0 = bit_or (kind * 2 ^ tag_bits % 2 ^ 32) tag; 1 = pair.0 })
        ≡ (kind * 2 ^ tag_bits + tag) * 2 ^ tag_at + (pair_of (record { 0 = count }) d (record { 0 = content })).0
    unfolding pair_of
    words_are pair h =
        rw (shl_exact kind_bits tag_bits 32 narrow_kind (lit≤ tt), or_shifted kind tag_bits tag narrow_tag)
        (ap (λ (other : Pair). (kind * 2 ^ tag_bits + tag) * 2 ^ tag_at + other.0) h)

    pub words_message : (pair : Pair) → pair ≡ pair_of (record { 0 = count }) d (record { 0 = content })
        → message_of (words_number (record { 0 = bit_or (kind * 2 ^ tag_bits % 2 ^ 32) tag; 1 = pair.0 }))
        ≡ message_by kind tag count d content
    words_message pair h = ap message_of (words_are pair h ∙ sym joined_is) ∙ sym fitting
