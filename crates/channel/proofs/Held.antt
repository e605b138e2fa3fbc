-- Sound memory is the layout of what it holds.
--
-- A channel's slots are cut into those used and zeros. Each used slot has the words of the message in it
-- (`Slot.holds`), so the slots are the layout's (`piece`); the counts are the lengths of what is held; and so
-- the whole is the layout (`layout_messages`).
-- Assumes nothing.
use Rattle.basics.proofs.Prelude.{◌≡◌, refl, sym, ap, ◌∙◌, Bool, true, List, [], ◌∷◌, length, get_or, drop}
use Rattle.basics.proofs.Prelude.{replicate, length-drop, ℕ, zero, suc, ◌+◌, ◌-◌, ◌*◌, ◌^◌, ◌≤◌, ◌<◌}
use Rattle.basics.proofs.Prelude.{add-zero, add-one, arith, eqb, ltb, eqb-true, leb-true}
use mathlib.Core.List.{map}
use native.Mathlib.Nat.{add_assoc, mod-eq_of_lt}
use lib.Seq.{append_snoc, get_or-drop}
use Rattle.register.proofs.Vocabulary.{listed, part_at, all_pass, Message, goes, message_of, words_number}
use Rattle.register.proofs.Vocabulary.{words_of, pair_bits, capacity}
use Rattle.basics.proofs.Cases.{both, both_of}
use Rattle.basics.proofs.Listed.{listed_length, listed_same, listed_join, listed_cons}
use Rattle.basics.proofs.Listed.{listed_first, listed_replicate}
use Rattle.basics.proofs.Tables.{tabled_same, tabled_back}
use Rattle.basics.proofs.Tests.{each, below}
use Rattle.channel.specs.Memory.{channels, per_message, per_channel, slots_length}
use Rattle.channel.specs.Memory.{slots_start, slot, count_at, oldest_on}
use Rattle.channel.specs.Layout.{packed, row, layout}
use Rattle.channel.specs.Sound.{is_down, slot_goes, message_at, channel_tests, sound, messages}
use Rattle.channel.proofs.Channel.{packed_more}
use Rattle.channel.proofs.Laws.{word_lt}
use Rattle.channel.proofs.Slot.{suits, held_at, holds}

all_listed : {A : Type 0} (p : A → Bool) (f : ℕ → A) (n : ℕ) → ((j : ℕ) → j < n → p (f j) ≡ true)
    → all_pass (map p (listed f n)) ≡ true
unfolding listed
all_listed p f zero h = refl
all_listed p f (suc n) h =
    rw (listed_cons f n)
    (both_of (p (f 0)) _ (h 0 (omega arith))
    (all_listed p (λ j. f (suc j)) n (λ j less. h (suc j) (omega arith))))

-- n messages and their words, two numbers each
packed_listed : (held : ℕ → Message) (number : ℕ → ℕ) (n : ℕ)
    → ((j : ℕ) → j < n → ((words_of (held j)).0 ≡ number (j * 2)) × ((words_of (held j)).1 ≡ number (j * 2 + 1)))
    → packed (listed held n) ≡ listed number (n * per_message)
unfolding listed packed
packed_listed held number zero h = refl
packed_listed held number (suc n) h =
    let e : suc n * 2 ≡ suc (suc (n * 2)) = omega arith in
    let words = h n (omega arith) in
    let before = packed_listed held number n (λ j less. h j (omega arith)) in
    rw (e, packed_more (listed held n) (held n), before, words.0, words.1, add-one (n * 2))
    (sym (append_snoc (listed number (n * 2)) (number (n * 2)) (number (suc (n * 2)) ∷ [])))

module _ (slots : List ℕ) (h : sound slots ≡ true) (i : ℕ) (inside : i < channels) where
  abbrev count : ℕ
  count = count_at slots i

  -- the message in slot j
  abbrev held : ℕ → Message
  held j = held_at slots (slot i j)

  -- numbers of the slots that are not used
  abbrev free : ℕ
  free = per_channel - count * per_message

  record Channel : Type 0 where
    few : count ≤ capacity
    used : (j : ℕ) → j < count → slot_goes (is_down i) slots (slot i j) ≡ true
    unused : (j : ℕ) → j < free → get_or slots (slot i count + j) 0 ≡ 0

  channel : Channel
  unfolding sound channel_tests
  channel =
      let t = each (channel_tests slots i) (below (λ j. all_pass (channel_tests slots j)) channels h i inside) in
      record {
        few = leb-true count capacity t.0;
        used = below (λ j. slot_goes (is_down i) slots (slot i j)) count t.1.0;
        unused = λ j less.
            eqb-true _ 0
            (below (λ place. eqb (get_or slots (slot i count + place) 0) 0) free t.1.1.0 j less);
      }

  pub counts_fit : count_at slots i ≤ capacity
  counts_fit = channel.few

  -- the oldest message of a channel that holds one goes the channel's way
  pub oldest_goes : 1 ≤ count → goes (is_down i) (message_of (words_number (oldest_on slots i))) ≡ true
  unfolding oldest_on
  oldest_goes some =
      let at = slots_start i in
      let first = rw (add-zero at) at (channel.used 0 some) in
      let narrow : get_or slots at 0 < 2 ^ 32 = rw (← (holds i slots at first).high)
      (word_lt (held_at slots at)) in
      rw (mod-eq_of_lt narrow)
      (both (ltb (get_or slots (at + 1) 0) (2 ^ pair_bits)) (goes (is_down i) (message_at slots at)) first).1

  messages_count : length (messages slots i) ≡ count
  unfolding messages
  messages_count = listed_length held count

  pub messages_fit : length (messages slots i) ≤ capacity
  messages_fit = rw messages_count counts_fit

  pub messages_suit : all_pass (map (suits i) (messages slots i)) ≡ true
  unfolding messages
  messages_suit =
      all_listed (suits i) held count (λ j less. (holds i slots (slot i j) (channel.used j less)).suited)

  -- the numbers of the channel are those of the messages that it holds
  numbers : row (messages slots i) ≡ listed (λ j. get_or slots (slots_start i + j) 0) per_channel
  unfolding row messages
  numbers =
      let number : ℕ → ℕ = λ j. get_or slots (slots_start i + j) 0 in
      let place : (n j : ℕ) → get_or slots (slots_start i + n + j) 0 ≡ number (n + j) =
      λ n j. ap (λ (place : ℕ). get_or slots place 0) (add_assoc (slots_start i) n j) in
      let few = channel.few in
      let all : count * per_message + free ≡ per_channel = omega arith in
      let used : packed (listed held count) ≡ listed number (count * per_message) =
      packed_listed held number count
      (λ j less. let words = holds i slots (slot i j) (channel.used j less) in
      (words.high, words.low ∙ place (j * 2) 1)) in
      let unused : listed (λ j. number (count * per_message + j)) free ≡ replicate free 0 =
      listed_same (λ j. number (count * per_message + j)) (λ j. 0) free
      (λ j less. sym (place (count * per_message) j) ∙ channel.unused j less)
      ∙ listed_replicate {A = ℕ} free 0 in
      rw (listed_length held count, used, ← unused)
      (sym (listed_join number (count * per_message) free) ∙ ap (listed number) all)

  piece : length slots ≡ slots_length → row (messages slots i) ≡ part_at (slots_start i) per_channel slots
  piece long =
      let at = slots_start i in
      numbers
      ∙ listed_same (λ j. get_or slots (at + j) 0) (λ j. get_or (drop at slots) j 0) per_channel
      (λ j less. sym (get_or-drop at slots j 0))
      ∙ listed_first (drop at slots) per_channel 0 (rw (length-drop at slots) (omega arith))

pub layout_messages : (slots : List ℕ) → sound slots ≡ true → length slots ≡ slots_length
    → layout (messages slots) ≡ slots
unfolding layout
layout_messages slots h long =
    rw (
      listed_same (λ i. length (messages slots i)) (count_at slots) channels (messages_count slots h),
      listed_first slots channels 0 (omega arith),
      tabled_same (λ i. row (messages slots i)) (λ i. part_at (slots_start i) per_channel slots) channels
          (λ i less. piece slots h i less long),
    ) (tabled_back per_channel slots channels channels long)
