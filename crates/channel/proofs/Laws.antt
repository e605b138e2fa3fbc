-- The operations on the channels' memory are those on lists of messages: put appends, remove leaves the tail,
-- clear leaves none, the oldest message is the head, the count is the length. These are the laws that callers
-- use.
--
-- Each operation acts within the slots of one channel (`Channel`), so it acts on that row of the table behind
-- the counts (`acts_row`), and then it stores the count (`acts`).
-- Assumes nothing.
use Rattle.basics.proofs.Prelude.{◌≡◌, refl, ap, ◌∙◌, List, [], ◌∷◌, ◌++◌, length, get_or, set, replicate}
use Rattle.basics.proofs.Prelude.{length-append, ℕ, zero, suc, ◌+◌, ◌-◌, ◌*◌, ◌^◌, ◌≤◌, ◌<◌, add-zero, arith}
use Rattle.basics.proofs.Prelude.{ne_eqb, lt-ltb}
use native.Mathlib.Nat.{zero-mul, suc-mul, mod-eq_of_lt}
use lib.ListN.{replicate-append-replicate, get_or-append}
use lib.Seq.{set-append_left}
use Rattle.register.proofs.Vocabulary.{listed, tabled, update, Message, Words, words_of, capacity}
use Rattle.basics.proofs.Listed.{listed_length, listed_same, listed_get, listed_set, listed_replicate}
use Rattle.basics.proofs.Tables.{update_map, tabled_same, tabled_update, tabled_length_behind}
use Rattle.basics.proofs.Tables.{reads_row, acts_row}
use Rattle.message.proofs.Numbers.{head_of, low_of, head_lt, words_are}
use Rattle.channel.specs.Memory.{channels, per_message, per_channel, slots_length}
use Rattle.channel.specs.Memory.{slots_start, slot, count_at, stored, zeroed, shifted}
use Rattle.channel.specs.Memory.{put_on, oldest_on, removed, cleared}
use Rattle.channel.specs.Layout.{Fitting, packed, row, layout}
use Rattle.channel.proofs.Filled.{get_between}
use Rattle.channel.proofs.Channel.{row_length, put_row, remove_row, clear_row}

abbrev counts : (ℕ → List Message) → List ℕ
counts held = listed (λ i. length (held i)) channels

abbrev rows : (ℕ → List Message) → ℕ → List ℕ
rows held i = row (held i)

-- channels that hold the same have the same numbers
pub layout_same : (held other : ℕ → List Message) → ((i : ℕ) → i < channels → held i ≡ other i)
    → layout held ≡ layout other
unfolding layout
layout_same held other h =
    rw (
      listed_same (λ i. length (held i)) (λ i. length (other i)) channels (λ i less. ap length (h i less)),
      tabled_same (rows held) (rows other) channels (λ i less. ap row (h i less)),
    )

-- n rows of zeros, each of one width
pub zero_rows : (width n : ℕ) → tabled {A = ℕ} (λ i. replicate width 0) n ≡ replicate (n * width) 0
unfolding tabled
zero_rows width zero = rw (zero-mul width)
zero_rows width (suc n) =
    rw (zero_rows width n, replicate-append-replicate {A = ℕ} (n * width) width 0, suc-mul n width)

-- no message anywhere: zeros
pub layout_empty : layout (λ i. []) ≡ replicate slots_length 0
unfolding layout row packed
layout_empty =
    rw (listed_replicate {A = ℕ} channels 0, zero_rows per_channel channels)
    (replicate-append-replicate {A = ℕ} channels (channels * per_channel) 0)

-- the first word of a message has 32 bits
pub word_lt : (message : Message) → (words_of message).0 < 2 ^ 32
word_lt message =
    rw (← words_are message (head_of message) (low_of message) refl refl) (omega (arith, head_lt message))

module _ (held : ℕ → List Message) (fits : Fitting held) where
  wide : (i : ℕ) → i < channels → length (rows held i) ≡ per_channel
  wide i less = row_length (held i) (fits i less)

  many : length (counts held) ≡ channels
  many = listed_length (λ i. length (held i)) channels

  pub layout_length : length (layout held) ≡ slots_length
  unfolding layout
  layout_length = tabled_length_behind per_channel (rows held) (counts held) channels wide ∙ rw many

  module _ (i : ℕ) (inside : i < channels) where
    pub layout_count : count_at (layout held) i ≡ length (held i)
    unfolding layout
    layout_count =
        get_or-append (counts held) (tabled (rows held) channels) 0 i (rw many inside)
        ∙ listed_get (λ j. length (held j)) channels i 0 inside

    -- a place of the slots of channel i
    pub layout_get : (offset : ℕ) → offset < per_channel
        → get_or (layout held) (slots_start i + offset) 0 ≡ get_or (rows held i) offset 0
    unfolding layout
    layout_get offset less =
        reads_row per_channel (rows held) channels wide (counts held) i inside
        (λ slots. get_or slots (slots_start i + offset) 0) (get_or (rows held i) offset 0)
        (λ front back e. get_between front (slots_start i) (rw many at e) (rows held i) back offset
        (rw (wide i inside) less))

    -- what acts on the slots of channel i and then stores the count
    acts : (act : List ℕ → List ℕ) (next : List Message) (size : ℕ) → length next ≡ size
        → ((front back : List ℕ) → length front ≡ slots_start i
        → act (front ++ rows held i ++ back) ≡ front ++ row next ++ back)
        → set (act (layout held)) i size ≡ layout (update held i next)
    unfolding layout
    acts act next size e h =
        let count : ℕ → ℕ = λ j. length (held j) in
        let slots : act (counts held ++ tabled (rows held) channels)
        ≡ counts held ++ tabled (update (rows held) i (row next)) channels =
        acts_row per_channel (rows held) channels wide (counts held) i inside act (row next)
        (λ front back q. h front back (rw many at q)) in
        let stored : set (counts held) i size ≡ counts (update held i next) =
        listed_set count channels i size inside ∙ rw (← e)
        (listed_same (update count i (length next)) (λ j. length (update held i next j)) channels
        (λ j less. update_map (λ (list : List Message). length list) held i j next)) in
        rw slots
        (set-append_left (counts held) (tabled (update (rows held) i (row next)) channels) i size
        (rw many inside) ∙ rw (stored, tabled_update row held i next channels))

    pub layout_put : (message : Message) → length (held i) < capacity
        → put_on (layout held) i (words_of message) ≡ layout (update held i (held i ++ message ∷ []))
    unfolding put_on
    layout_put message room =
        let count = length (held i) in
        rw (layout_count, lt-ltb count capacity room)
        (acts (λ slots. stored slots (slot i count) (words_of message)) (held i ++ message ∷ []) (count + 1)
        (length-append (held i) (message ∷ []))
        (λ front back e. put_row front back (slots_start i) e (held i) message room))

    -- a full channel stays as it is
    pub layout_full : (words : Words) → length (held i) ≡ capacity → put_on (layout held) i words ≡ layout held
    unfolding put_on
    layout_full words full = rw (layout_count, full)

    pub layout_remove : (oldest : Message) (rest : List Message) → held i ≡ oldest ∷ rest
        → removed (layout held) i ≡ layout (update held i rest)
    unfolding removed
    layout_remove oldest rest e =
        let short : length (oldest ∷ rest) ≤ capacity = rw e at (fits i inside) in
        let k : count_at (layout held) i ≡ suc (length rest) = layout_count ∙ rw e in
        rw (k, ne_eqb (suc (length rest)) 0 (λ z. omega arith))
        (acts (λ slots. zeroed (shifted slots (slots_start i)) (slot i (capacity - 1)) per_message) rest _
        (omega arith) (λ front back q. rw e (remove_row front back (slots_start i) q oldest rest short)))

    pub layout_clear : cleared (layout held) i ≡ layout (update held i [])
    unfolding cleared
    layout_clear =
        acts (λ slots. zeroed slots (slots_start i) per_channel) [] 0 refl
        (λ front back e. clear_row front back (slots_start i) e (held i) (fits i inside))

    pub layout_oldest : (oldest : Message) (rest : List Message) → held i ≡ oldest ∷ rest
        → oldest_on (layout held) i ≡ words_of oldest
    unfolding oldest_on row packed
    layout_oldest oldest rest e =
        let zeroth : get_or (layout held) (slots_start i) 0 ≡ (words_of oldest).0 =
        rw add-zero at (layout_get 0 (omega arith)) ∙ rw e in
        let next : get_or (layout held) (slots_start i + 1) 0 ≡ (words_of oldest).1 =
        layout_get 1 (omega arith) ∙ rw e in
        rw (zeroth, next)
        (ap (λ (word : ℕ). record { 0 = word; 1 = (words_of oldest).1 }) (mod-eq_of_lt (word_lt oldest)))
