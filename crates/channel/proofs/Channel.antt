-- The operations on one channel's slots, wherever they stand: a message put behind the others, the oldest
-- removed, all cleared.
--
-- The slots of a channel are cut where an operation stores: a message goes into the first slot of zeros
-- (`put_row`); what stands behind the oldest message moves into its place, and the slot that falls free is
-- the last (`remove_row`); zeros everywhere are an empty channel's slots (`clear_row`).
-- Assumes nothing.
use Rattle.basics.proofs.Prelude.{◌≡◌, refl, sym, ap, ◌∙◌, List, [], ◌∷◌, ◌++◌, append_assoc, length, get_or}
use Rattle.basics.proofs.Prelude.{take, drop, replicate, length-append, length-drop, length-take-le, ℕ, suc}
use Rattle.basics.proofs.Prelude.{◌+◌, ◌-◌, ◌*◌, ◌≤◌, ◌<◌, arith}
use lib.ListN.{length-replicate}
use lib.ListN.{replicate-append-replicate, take-append-drop}
use Rattle.basics.proofs.Listed.{listed_all, listed_replicate}
use Rattle.register.proofs.Vocabulary.{Message, words_of, capacity}
use Rattle.channel.specs.Memory.{per_message, per_channel, moved}
use Rattle.channel.specs.Memory.{filled, stored, zeroed, shifted}
use Rattle.channel.specs.Layout.{packed, row}
use Rattle.channel.proofs.Filled.{filled_same, filled_between, stored_between, get_between}

-- the words of a message
abbrev pair : Message → List ℕ
pair message = (words_of message).0 ∷ (words_of message).1 ∷ []

pub packed_length : (held : List Message) → length (packed held) ≡ length held * per_message
unfolding packed
packed_length [] = refl
packed_length (message ∷ held) = omega (arith, packed_length held)

pub packed_more : (held : List Message) (message : Message)
    → packed (held ++ message ∷ []) ≡ packed held ++ pair message
unfolding packed
packed_more [] message = refl
packed_more (first ∷ held) message = rw (packed_more held message)

-- messages, and zeros behind them
filled_up : (held : List Message) (k : ℕ)
    → length (packed held ++ replicate k 0) ≡ length held * per_message + k
filled_up held k = simp (length-append, packed_length, length-replicate)

pub row_length : (held : List Message) → length held ≤ capacity → length (row held) ≡ per_channel
unfolding row
row_length held h = filled_up held (per_channel - length held * per_message) ∙ omega arith

regroup : (front part rest back : List ℕ) → front ++ (part ++ rest) ++ back ≡ front ++ part ++ (rest ++ back)
regroup front part rest back = simp append_assoc

-- ---- where the slots of a channel stand: behind a front, before a back

module _ (front back : List ℕ) (at : ℕ) (e : length front ≡ at) where
  pub put_row : (held : List Message) (message : Message) → length held < capacity
      → stored (front ++ row held ++ back) (at + length held * per_message) (words_of message)
      ≡ front ++ row (held ++ message ∷ []) ++ back
  unfolding row
  put_row held message h =
      let k = per_channel - (length held + 1) * per_message in
      let free : per_channel - length held * per_message ≡ suc (suc k) = omega arith in
      let zeros : List ℕ = replicate k 0 in
      let free_at : length (front ++ packed held) ≡ at + length held * per_message =
      length-append front (packed held) ∙ rw (e, packed_length held) in
      rw (
        free,
        regroup front (packed held) (0 ∷ 0 ∷ zeros) back,
        stored_between (front ++ packed held) (at + length held * per_message) free_at (zeros ++ back) 0 0
            (words_of message),
        length-append held (message ∷ []),
        packed_more held message,
        append_assoc (packed held) (pair message) zeros,
      ) (sym (regroup front (packed held) (pair message ++ zeros) back))

  module _ (oldest : Message) (rest : List Message) (short : suc (length rest) ≤ capacity) where
    -- what is behind the oldest message, up to the end
    behind : List ℕ
    behind = packed rest ++ replicate (per_channel - suc (length rest) * per_message) 0

    behind_length : length behind ≡ moved
    unfolding behind
    behind_length = filled_up rest (per_channel - suc (length rest) * per_message) ∙ omega arith

    first : row (oldest ∷ rest) ≡ pair oldest ++ behind
    unfolding row packed behind
    first = refl

    -- and a slot of zeros at the end: the slots of the rest
    closed : behind ++ 0 ∷ 0 ∷ [] ≡ row rest
    unfolding row behind
    closed =
        let k = per_channel - suc (length rest) * per_message in
        let all : k + 2 ≡ per_channel - length rest * per_message = omega arith in
        rw (append_assoc, replicate-append-replicate {A = ℕ} k 2 0, all)

    -- the rest moved down by a slot
    shift_row : shifted (front ++ row (oldest ∷ rest) ++ back) at
        ≡ front ++ behind ++ (drop moved (row (oldest ∷ rest)) ++ back)
    unfolding shifted
    shift_row =
        let slots = row (oldest ∷ rest) in
        let value : ℕ → ℕ = λ j. get_or behind j 0 in
        let wide = length-take-le moved slots (omega (arith, row_length (oldest ∷ rest) short)) in
        let here : front ++ slots ++ back ≡ front ++ take moved slots ++ (drop moved slots ++ back) =
        rw (← regroup front (take moved slots) (drop moved slots) back, take-append-drop) in
        let split : front ++ slots ++ back ≡ front ++ pair oldest ++ behind ++ back =
        rw (first, append_assoc front (pair oldest) behind) in
        let read : (j : ℕ) → j < moved → get_or (front ++ slots ++ back) (at + per_message + j) 0 ≡ value j =
        λ j less. rw split
        (get_between (front ++ pair oldest) (at + 2) (length-append front (pair oldest) ∙ rw e) behind back j
        (rw behind_length less)) in
        filled_same (front ++ slots ++ back) at
        (λ j. get_or (front ++ slots ++ back) (at + per_message + j) 0) value moved read
        ∙ ap (λ (list : List ℕ). filled list at value moved) here
        ∙ filled_between front at e (take moved slots) (drop moved slots ++ back) value moved wide
        ∙ rw (listed_all behind moved 0 behind_length)

    pub remove_row : zeroed (shifted (front ++ row (oldest ∷ rest) ++ back) at) (at + moved) per_message
        ≡ front ++ row rest ++ back
    remove_row =
        let slots = row (oldest ∷ rest) in
        let last : length (drop moved slots) ≡ per_message =
        length-drop moved slots ∙ omega (arith, row_length (oldest ∷ rest) short) in
        let place : length (front ++ behind) ≡ at + moved =
        length-append front behind ∙ rw (e, behind_length) in
        rw (shift_row, ← append_assoc (front ++ behind) (drop moved slots) back)
        (filled_between (front ++ behind) (at + moved) place (drop moved slots) back (λ j. 0) 2 last
        ∙ rw (listed_replicate {A = ℕ} 2 0, append_assoc front behind (0 ∷ 0 ∷ []), closed))

  pub clear_row : (held : List Message) → length held ≤ capacity
      → zeroed (front ++ row held ++ back) at per_channel ≡ front ++ row [] ++ back
  unfolding row packed
  clear_row held h =
      filled_between front at e (row held) back (λ j. 0) per_channel (row_length held h)
      ∙ rw (listed_replicate {A = ℕ} per_channel 0)
