-- When the channels' memory is sound, and which messages sound memory holds.
--
-- 01, of a sound state: 'lengths and fields are in range, desk wires hold kinds 1, 3, 4 and keeper wires 2,
-- 5, 6, none a misprint, .. unused places are zero'. That channels that drop are empty is judged in `state`,
-- which knows which ones drop.
--
-- In order: numbers that are zero; a channel's way; a slot; a channel; all channels; what they
-- hold.
-- Assumes nothing.
use Rattle.std.specs.Prelude.{ℕ, ◌+◌, ◌-◌, ◌*◌, ◌^◌, ◌≤◌, ◌<◌, Bool, ◌&&◌, List, [], ◌∷◌, eqb, leb, ltb, get_or}
use Rattle.std.specs.Prelude.{Ok, Err}
use Rattle.basics.specs.Tables.{listed}
use Rattle.basics.specs.Tests.{all_pass, all_below}
use Rattle.message.specs.declared.Message.{Message}
use Rattle.message.specs.declared.Message.TheVariants.{Done}
use Rattle.message.specs.Layout.{Unpacked}
use Rattle.message.specs.Layout.{goes, message_of}
use Rattle.message.specs.Pair.{pair_bits}
use Rattle.register.specs.Settings.{capacity}
use Rattle.channel.specs.Memory.{upward, channels, per_message, per_channel, slot, count_at}

-- n numbers from `at` on are zero
abbrev pub zero_from : List ℕ → ℕ → ℕ → Bool
zero_from slots at n = all_below (λ j. eqb (get_or slots (at + j) 0) 0) n

-- the first half of the channels goes from clients to servers, the second back
abbrev pub is_down : ℕ → Bool
is_down i = leb upward i

-- two numbers are the words of a message that goes that way
abbrev pub words_go : Bool → ℕ → ℕ → Bool
words_go down first second = ltb second (2 ^ pair_bits) && goes down (message_of (first * 2 ^ pair_bits + second))

-- the slot at `at` holds such words
abbrev pub slot_goes : Bool → List ℕ → ℕ → Bool
slot_goes down slots at = words_go down (get_or slots at 0) (get_or slots (at + 1) 0)

-- what the slot at `at` holds
abbrev pub message_at : List ℕ → ℕ → Unpacked
message_at slots at = message_of (get_or slots at 0 * 2 ^ pair_bits + get_or slots (at + 1) 0)

-- channel i: the count in range, what each used slot holds, the unused ones
unfoldable pub channel_tests : List ℕ → ℕ → List Bool
channel_tests slots i =
    let held = count_at slots i in
    leb held capacity
    ∷ all_below (λ j. slot_goes (is_down i) slots (slot i j)) held
    ∷ zero_from slots (slot i held) (per_channel - held * per_message)
    ∷ []

-- the memory is sound
unfoldable pub sound : List ℕ → Bool
sound slots = all_below (λ i. all_pass (channel_tests slots i)) channels

-- no channel holds more messages than it has slots
abbrev pub CountsFit : List ℕ → Type 0
CountsFit slots = (i : ℕ) → i < channels → count_at slots i ≤ capacity

-- the message of numbers; where they are none it does not matter which
unfoldable pub message_in : Unpacked → Message
message_in (Ok message) = message
message_in (Err why) = Done

-- what channel i holds, oldest first
unfoldable pub messages : List ℕ → ℕ → List Message
messages slots i = listed (λ j. message_in (message_at slots (slot i j))) (count_at slots i)
