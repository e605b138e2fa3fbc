-- What the memory of the channels stands for: for each channel the list of its messages, oldest first.
--
-- `layout` says which numbers stand for such lists. It is the only way: the counts are the lists' lengths, a
-- channel's messages stand in its first slots, and a slot that is not used is zero (01: 'every unused place
-- holds zero bytes').
-- Assumes nothing.
use Rattle.std.specs.Prelude.{ℕ, ◌-◌, ◌*◌, ◌≤◌, ◌<◌, List, [], ◌∷◌, ◌++◌, length, replicate}
use Rattle.basics.specs.Tables.{listed, tabled}
use Rattle.message.specs.declared.Message.{Message}
use Rattle.message.specs.Layout.{words_of}
use Rattle.register.specs.Settings.{capacity}
use Rattle.channel.specs.Memory.{channels, per_message, per_channel}

-- no channel holds more messages than it has slots
abbrev pub Fitting : (ℕ → List Message) → Type 0
Fitting held = (i : ℕ) → i < channels → length (held i) ≤ capacity

-- messages one behind the other, each in its two words
unfoldable pub packed : List Message → List ℕ
packed [] = []
packed (message ∷ rest) = (words_of message).0 ∷ (words_of message).1 ∷ packed rest

-- the slots of a channel: its messages, and zeros in the slots that are not used
unfoldable pub row : List Message → List ℕ
row held = packed held ++ replicate (per_channel - length held * per_message) 0

-- the numbers of all channels: their counts, and their slots
unfoldable pub layout : (ℕ → List Message) → List ℕ
layout held = listed (λ i. length (held i)) channels ++ tabled (λ i. row (held i)) channels
