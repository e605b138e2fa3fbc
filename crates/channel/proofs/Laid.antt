-- The layout of messages that suit their channels is sound, and holds them.
--
-- What a channel's slots hold is read off its packed messages, one slot after the other (`slots_back`,
-- `slots_pass`), and what the layout has in a slot is what the row has there (`place`). So the memory holds
-- those messages (`messages_layout`); each slot passes, and what is behind them is zero (`sound_messages`).
-- Assumes nothing.
use Rattle.basics.proofs.Prelude.{◌≡◌, refl, sym, ap, ◌∙◌, true, List, [], ◌∷◌, ◌++◌, length, get_or, replicate}
use Rattle.basics.proofs.Prelude.{ℕ, zero, suc, ◌+◌, ◌-◌, ◌*◌, ◌≤◌, ◌<◌, not-suc-le-zero, arith, eqb, eq-eqb}
use Rattle.basics.proofs.Prelude.{le-leb}
use mathlib.Core.List.{map}
use native.Mathlib.Nat.{add_assoc}
use lib.ListN.{get_or-replicate}
use lib.Seq.{get_or-append-add}
use Rattle.register.proofs.Vocabulary.{listed, all_pass, Message, capacity}
use Rattle.basics.proofs.Cases.{both}
use Rattle.basics.proofs.Listed.{listed_same, listed_cons}
use Rattle.basics.proofs.Tests.{all_of, below_of}
use Rattle.channel.specs.Memory.{channels, per_message, per_channel, slots_start, slot}
use Rattle.channel.specs.Layout.{Fitting, packed, row, layout}
use Rattle.channel.specs.Sound.{is_down, slot_goes, channel_tests, sound, messages}
use Rattle.channel.proofs.Channel.{packed_length}
use Rattle.channel.proofs.Laws.{layout_count, layout_get}
use Rattle.channel.proofs.Slot.{suits, held_at, held_at_lem, passes_at}

-- every message on every channel may be there
abbrev pub Suiting : (ℕ → List Message) → Type 0
Suiting held = (i : ℕ) → i < channels → all_pass (map (suits i) (held i)) ≡ true

-- ---- the slots of one channel, with others behind them

module _ (back : List ℕ) (i : ℕ) where
  -- slot j + 1 of all messages is slot j of those behind the first
  next_place : (j : ℕ) → suc j * 2 ≡ suc (suc (j * 2))
  next_place j = omega arith

  next_low : (j : ℕ) → suc j * 2 + 1 ≡ suc (suc (j * 2 + 1))
  next_low j = omega arith

  slots_back : (held : List Message) → all_pass (map (suits i) held) ≡ true
      → listed (λ j. held_at (packed held ++ back) (j * 2)) (length held) ≡ held
  unfolding listed packed
  slots_back [] h = refl
  slots_back (message ∷ held) h =
      let slots = packed (message ∷ held) ++ back in
      let q = both (suits i message) (all_pass (map (suits i) held)) h in
      listed_cons (λ j. held_at slots (j * 2)) (length held)
      ∙ rw (held_at_lem i message q.0 slots 0 refl refl) (ap (λ (rest : List Message). message ∷ rest)
      (listed_same (λ j. held_at slots (suc j * 2)) (λ j. held_at (packed held ++ back) (j * 2)) (length held)
      (λ j less. rw (next_low j, next_place j))
      ∙ slots_back held q.1))

  slots_pass : (held : List Message) (j : ℕ) → all_pass (map (suits i) held) ≡ true → j < length held
      → slot_goes (is_down i) (packed held ++ back) (j * 2) ≡ true
  unfolding packed
  slots_pass [] j h less = absurd (not-suc-le-zero less)
  slots_pass (message ∷ held) zero h less =
      passes_at i message (both (suits i message) (all_pass (map (suits i) held)) h).0
      (packed (message ∷ held) ++ back) 0 refl refl
  slots_pass (message ∷ held) (suc j) h less =
      rw (next_low j, next_place j)
      (slots_pass held j (both (suits i message) (all_pass (map (suits i) held)) h).1 (omega arith))

-- ---- all channels

module _ (held : ℕ → List Message) (fits : Fitting held) (good : Suiting held) where
  module _ (i : ℕ) (inside : i < channels) where
    abbrev count : ℕ
    count = length (held i)

    -- numbers of the slots that are not used
    abbrev free : ℕ
    free = per_channel - count * per_message

    slots : List ℕ
    unfolding row
    slots = row (held i)

    place : (offset : ℕ) → offset < per_channel
        → get_or (layout held) (slots_start i + offset) 0 ≡ get_or slots offset 0
    unfolding slots
    place offset less = layout_get held fits i inside offset less

    behind : (n j : ℕ) → n + j < per_channel
        → get_or (layout held) (slots_start i + n + j) 0 ≡ get_or slots (n + j) 0
    behind n j less = rw (add_assoc (slots_start i) n j) (place (n + j) less)

    pub messages_layout : messages (layout held) i ≡ held i
    unfolding messages slots row
    messages_layout =
        let short : count ≤ capacity = fits i inside in
        rw (layout_count held fits i inside)
        (listed_same (λ j. held_at (layout held) (slot i j)) (λ j. held_at slots (j * 2)) count
        (λ j less. rw (behind (j * 2) 1 (omega arith), place (j * 2) (omega arith)))
        ∙ slots_back (replicate free 0) i (held i) (good i inside))

    used : (j : ℕ) → j < count → slot_goes (is_down i) (layout held) (slot i j) ≡ true
    unfolding slots row
    used j less =
        let short : count ≤ capacity = fits i inside in
        rw (behind (j * 2) 1 (omega arith), place (j * 2) (omega arith))
        (slots_pass (replicate free 0) i (held i) j (good i inside) less)

    unused : (j : ℕ) → j < free → get_or (layout held) (slot i count + j) 0 ≡ 0
    unfolding slots row
    unused j less =
        behind (count * per_message) j (omega arith)
        ∙ ap (λ (place : ℕ). get_or slots (place + j) 0) (sym (packed_length (held i)))
        ∙ get_or-append-add (packed (held i)) (replicate free 0) j 0 ∙ get_or-replicate free j 0 0 less

    sound_channel : all_pass (channel_tests (layout held) i) ≡ true
    unfolding channel_tests
    sound_channel =
        let memory = layout held in
        let go = below_of (λ j. slot_goes (is_down i) memory (slot i j)) count used in
        let zero_behind = below_of (λ j. eqb (get_or memory (slot i count + j) 0) 0) free
        (λ j less. eq-eqb (get_or memory (slot i count + j) 0) 0 (unused j less)) in
        all_of (channel_tests memory i)
        (rw (layout_count held fits i inside)
        (le-leb count capacity (fits i inside), (go, (zero_behind, tt))))

  pub sound_messages : sound (layout held) ≡ true
  unfolding sound
  sound_messages = below_of (λ i. all_pass (channel_tests (layout held) i)) channels sound_channel
