-- A slot and the message in it.
--
-- Two numbers that pass a slot's test are the words of a message, and of that alone: a message found in a
-- number has that very number (`holds`). The words of a message that suits the channel pass, and the message
-- is found in them (`found_at`, `passes_at`). A first number over 32 bits has a kind that no message has
-- (`over_fails`).
-- Assumes nothing.
use Rattle.basics.proofs.Prelude.{◌≡◌, refl, sym, ap, ◌∙◌, Bool, true, false, ◌&&◌, List, get_or, ℕ, ◌+◌, ◌*◌}
use Rattle.basics.proofs.Prelude.{◌/◌, ◌%◌, ◌^◌, ◌≤◌, ◌<◌, arith, ltb, ne_eqb, ltb-true, lt-ltb}
use Rattle.std.specs.Prelude.{Ok, Err}
use native.Mathlib.Nat.{mod-lt}
use lib.Pow.{pow_pos}
use Rattle.basics.proofs.Cases.{by_test, both, both_of, true_or_false}
use Rattle.register.proofs.Vocabulary.{Message, Unpacked, Words, tag_bits, goes, message_of, well_formed}
use Rattle.register.proofs.Vocabulary.{words, words_of, pair_bits}
use Rattle.message.specs.Layout.{number_of, malformed}
use Rattle.message.proofs.Fields.{by_words, by_words_lem}
use Rattle.message.proofs.Numbers.{only, words_back}
use Rattle.message.proofs.RoundTrip.{of_words_of}
use Rattle.channel.specs.Sound.{is_down, words_go, message_at, slot_goes, message_in}

-- a message that may be on channel i: no field over its width, and it goes the channel's way
abbrev pub suits : ℕ → Message → Bool
suits i message = well_formed message && goes (is_down i) (Ok message)

-- the message in the slot at `at`
abbrev pub held_at : List ℕ → ℕ → Message
held_at slots at = message_in (message_at slots at)

held_is : (slots : List ℕ) (at : ℕ) (message : Message) → message_at slots at ≡ Ok message
    → held_at slots at ≡ message
unfolding message_in
held_is slots at message e = ap message_in e

nowhere : (down : Bool) → goes down malformed ≡ false
unfolding goes
nowhere down = refl

-- ---- from the numbers to the message

words_found : (first second : ℕ) (message : Message) → second < 2 ^ pair_bits
    → number_of message ≡ first * 2 ^ pair_bits + second
    → words_of message ≡ (record { 0 = first; 1 = second })
unfolding words_of
words_found first second message small e = ap words e ∙ sym (words_back first second small)

-- the slot's numbers are the words of the message in it, which suits channel i
pub record Holds (i : ℕ) (slots : List ℕ) (at : ℕ) : Type 0 where
  pub high : (words_of (held_at slots at)).0 ≡ get_or slots at 0
  pub low : (words_of (held_at slots at)).1 ≡ get_or slots (at + 1) 0
  pub suited : suits i (held_at slots at) ≡ true

module _ (i : ℕ) (slots : List ℕ) (at : ℕ) (e : slot_goes (is_down i) slots at ≡ true) where
  parts : (ltb (get_or slots (at + 1) 0) (2 ^ pair_bits) ≡ true) × (goes (is_down i) (message_at slots at) ≡ true)
  parts = both (ltb (get_or slots (at + 1) 0) (2 ^ pair_bits)) (goes (is_down i) (message_at slots at)) e

  holds_as : (unpacked : Unpacked) → message_at slots at ≡ unpacked → Holds i slots at
  unfolding goes
  holds_as (Err why) q =
      absurd (true_or_false (goes (is_down i) (message_at slots at)) parts.1 (ap (goes (is_down i)) q))
  holds_as (Ok message) q =
      let first = get_or slots at 0 in
      let second = get_or slots (at + 1) 0 in
      let f = only (first * 2 ^ pair_bits + second) message q in
      let is = held_is slots at message q in
      let same =
      ap words_of is
      ∙ words_found first second message (ltb-true second (2 ^ pair_bits) parts.0) f.number in
      record {
        high = ap (λ (words : Words). words.0) same;
        low = ap (λ (words : Words). words.1) same;
        suited = rw is (both_of (well_formed message) _ f.within (sym (ap (goes (is_down i)) q) ∙ parts.1));
      }

  pub holds : Holds i slots at
  holds = holds_as (message_at slots at) refl

-- ---- from the message to the numbers

low_word : (message : Message) → (words_of message).1 < 2 ^ pair_bits
unfolding words_of
low_word message = mod-lt (number_of message) (pow_pos pair_bits)

module _ (i : ℕ) (message : Message) (good : suits i message ≡ true) (slots : List ℕ) (at : ℕ)
    (high : get_or slots at 0 ≡ (words_of message).0) (low : get_or slots (at + 1) 0 ≡ (words_of message).1) where
  found_at : message_at slots at ≡ Ok message
  found_at =
      rw (high, low)
      (of_words_of message (both (well_formed message) (goes (is_down i) (Ok message)) good).0)

  pub held_at_lem : held_at slots at ≡ message
  held_at_lem = held_is slots at message found_at

  pub passes_at : slot_goes (is_down i) slots at ≡ true
  passes_at =
      both_of (ltb (get_or slots (at + 1) 0) (2 ^ pair_bits)) (goes (is_down i) (message_at slots at))
      (rw low (lt-ltb (words_of message).1 (2 ^ pair_bits) (low_word message)))
      (ap (goes (is_down i)) found_at ∙ (both (well_formed message) (goes (is_down i) (Ok message)) good).1)

-- ---- a first number over 32 bits

no_kind : (kind tag second : ℕ) → 7 ≤ kind → by_words kind tag second ≡ malformed
unfolding by_words
no_kind kind tag second h =
    rw (
      ne_eqb kind 1 (λ z. omega arith),
      ne_eqb kind 2 (λ z. omega arith),
      ne_eqb kind 3 (λ z. omega arith),
      ne_eqb kind 4 (λ z. omega arith),
      ne_eqb kind 5 (λ z. omega arith),
      ne_eqb kind 6 (λ z. omega arith),
    )

over_malformed : (first second : ℕ) → 2 ^ 32 ≤ first → second < 2 ^ pair_bits
    → message_of (first * 2 ^ pair_bits + second) ≡ malformed
over_malformed first second over small =
    by_words_lem first second small ∙ no_kind (first / 2 ^ tag_bits) (first % 2 ^ tag_bits) second (omega arith)

pub over_fails : (down : Bool) (first second : ℕ) → 2 ^ 32 ≤ first → words_go down first second ≡ false
over_fails down first second over =
    by_test (ltb second (2 ^ pair_bits))
    (λ e. rw (e, over_malformed first second over (ltb-true second (2 ^ pair_bits) e)) (nowhere down))
    (λ e. rw e)
