-- The message of a number, by its words: kind and tag in front of 64 low bits.
--
-- A number is head * 2 ^ 64 + low with low below 2 ^ 64, and head is kind * 2 ^ 20 + tag. The fields behind
-- the tag are those of low alone, and they are all zero exactly when low is. So `message_of` asks of low and
-- the tag what `by_words` says, which is what the code asks.
-- Assumes nothing.
use Rattle.basics.proofs.Prelude.{◌≡◌, refl, sym, ap, ◌∙◌, Bool, true, cond, ◌&&◌, [], ◌∷◌, ℕ, ◌+◌, ◌*◌}
use Rattle.basics.proofs.Prelude.{◌/◌, ◌%◌, ◌^◌, ◌<◌, arith, eqb, eqb-true, eq-eqb}
use Rattle.std.specs.Prelude.{Ok}
use lib.Bits.{bit_and, and_mask}
use Rattle.basics.proofs.Cases.{by_test, both, both_of, true_or_false}
use Rattle.message.specs.declared.Message.{Message}
use Rattle.message.specs.declared.Message.TheVariants.{GetInfo, Info, Done, WriteInfo, Fwd, WriteAck}
use Rattle.message.specs.Layout.{Unpacked}
use Rattle.message.specs.declared.Words.{Words}
use Rattle.message.specs.Pair.{client_bits, entry_bits, pair_bits, client_at, counter_at, pair_of}
use Rattle.message.specs.Layout.{tag_bits, last_read, kind_of, tag_of, counter_of, client_of, entry_of}
use Rattle.message.specs.Layout.{zeros, malformed, message_of, words_number}

-- ---- which fields are zero

same_test : (a b : Bool) → (a ≡ true → b ≡ true) → (b ≡ true → a ≡ true) → a ≡ b
same_test a b f g =
    by_test a (λ e. e ∙ sym (f e))
    (λ e. by_test b (λ e'. absurd (true_or_false a (g e') e)) (λ e'. e ∙ sym e'))

-- what the low bits hold: counter, client and entry; and all that stands behind the counter
abbrev count : ℕ → ℕ
count low = low / 2 ^ counter_at

abbrev writer : ℕ → ℕ
writer low = low / 2 ^ client_at % 2 ^ client_bits

abbrev content : ℕ → ℕ
content low = low % 2 ^ entry_bits

abbrev behind : ℕ → ℕ
behind low = low % 2 ^ counter_at

-- client and entry are zero when all behind the counter is
zero_rest : (low : ℕ) → zeros (writer low ∷ content low ∷ []) ≡ eqb (behind low) 0
zero_rest low =
    same_test _ _
    (λ e. let p = both (eqb (writer low) 0) _ e in
    let d = eqb-true (writer low) 0 p.0 in
    let f = eqb-true (content low) 0 (both (eqb (content low) 0) true p.1).0 in
    eq-eqb (behind low) 0 (omega arith)) (λ e. let z = eqb-true (behind low) 0 e in
    both_of _ _ (eq-eqb (writer low) 0 (omega arith))
    (both_of _ _ (eq-eqb (content low) 0 (omega arith)) refl))

-- counter, client and entry are zero when all low bits are
zero_low : (low : ℕ) → zeros (count low ∷ writer low ∷ content low ∷ []) ≡ eqb low 0
zero_low low =
    rw (zero_rest low) (same_test (eqb (count low) 0 && eqb (behind low) 0) (eqb low 0)
    (λ e. let p = both (eqb (count low) 0) (eqb (behind low) 0) e in
    let c = eqb-true (count low) 0 p.0 in
    let r = eqb-true (behind low) 0 p.1 in
    eq-eqb low 0 (omega arith)) (λ e. let z = eqb-true low 0 e in
    both_of (eqb (count low) 0) (eqb (behind low) 0) (eq-eqb (count low) 0 (omega arith))
    (eq-eqb (behind low) 0 (omega arith))))

-- ---- the message of two words

-- as `kind` of Layout, with one test
abbrev pub case : ℕ → ℕ → Bool → Message → Unpacked → Unpacked
case kind expected fine message other = cond (eqb kind expected) (cond fine (Ok message) malformed) other

-- by kind, tag and low bits
unfoldable pub by_words : ℕ → ℕ → ℕ → Unpacked
by_words kind tag low =
    case kind 1 (eqb low 0) (GetInfo (record { 0 = tag }))
    (case kind 2 true (Info (record { 0 = tag }) (record { 0 = low }))
    (case kind 3 (eqb tag 0 && eqb low 0) Done
    (case kind 4 (eqb tag 0 && true) (WriteInfo (record { 0 = low }))
    (case kind 5 (eqb tag 0 && true) (Fwd (record { 0 = low }))
    (case kind 6 (eqb tag 0 && eqb (behind low) 0) (WriteAck (record { 0 = count low })) malformed)))))

pub by_words_lem : (head low : ℕ) → low < 2 ^ pair_bits
    → message_of (head * 2 ^ pair_bits + low) ≡ by_words (head / 2 ^ tag_bits) (head % 2 ^ tag_bits) low
unfolding message_of by_words pair_of
by_words_lem head low small =
    let n = head * 2 ^ pair_bits + low in
    rw (
      (let kind : kind_of n ≡ head / 2 ^ tag_bits = omega arith in kind),
      (let tag : tag_of n ≡ head % 2 ^ tag_bits = omega arith in tag),
      (let pair : counter_of n * 2 ^ counter_at + client_of n * 2 ^ client_at + entry_of n ≡ low = omega arith in
          pair),
      (let first : counter_of n ≡ count low = omega arith in first),
      (let second : client_of n ≡ writer low = omega arith in second),
      (let third : entry_of n ≡ content low = omega arith in third),
      zero_low low,
      zero_rest low,
    )

-- as the code has them: the tag by a mask
pub of_words_is : (words : Words) → words.1 < 2 ^ pair_bits
    → message_of (words_number words) ≡ by_words (words.0 / 2 ^ tag_bits) (bit_and words.0 last_read) words.1
of_words_is words small =
    by_words_lem words.0 words.1 small
    ∙ ap (λ (tag : ℕ). by_words (words.0 / 2 ^ tag_bits) tag words.1) (sym (and_mask words.0 tag_bits))

-- and the kind as it is known
pub found_as : (words : Words) → words.1 < 2 ^ pair_bits → (kind : ℕ) → words.0 / 2 ^ tag_bits ≡ kind
    → message_of (words_number words) ≡ by_words kind (bit_and words.0 last_read) words.1
found_as words small kind e =
    of_words_is words small ∙ ap (λ (k : ℕ). by_words k (bit_and words.0 last_read) words.1) e
