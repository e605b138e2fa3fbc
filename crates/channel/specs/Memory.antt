-- The memory of the channels, number by number (01: wires with their places).
--
-- First stand the counts of the 156 channels, then for each channel eight slots of two numbers, oldest
-- message first. A message in a slot is its two words. What the numbers mean is said in `Layout`; here is
-- what each operation does to any list of numbers.
--
-- In order: sizes; parts of a channel; numbers written; put, oldest, remove and clear.
-- Assumes nothing.
use Rattle.std.specs.Prelude.{ℕ, zero, suc, ◌+◌, ◌-◌, ◌*◌, ◌%◌, ◌^◌, cond, List, eqb, ltb, get_or, set}
use Rattle.message.specs.declared.Words.{Words}
use Rattle.register.specs.Settings.{most_servers, most_clients, capacity}

-- channels from clients to servers
abbrev pub upward : ℕ
upward = most_clients * most_servers

-- all channels: as many go back
abbrev pub channels : ℕ
channels = 2 * upward

-- numbers of a message
abbrev pub per_message : ℕ
per_message = 2

-- numbers of a channel's slots
abbrev pub per_channel : ℕ
per_channel = capacity * per_message

-- numbers of all of them but the last: those that move down
abbrev pub moved : ℕ
moved = per_channel - per_message

-- numbers of the whole memory
abbrev pub slots_length : ℕ
slots_length = channels + channels * per_channel

-- where the slots of channel i begin
abbrev pub slots_start : ℕ → ℕ
slots_start i = channels + i * per_channel

-- where slot j of channel i begins
abbrev pub slot : ℕ → ℕ → ℕ
slot i j = slots_start i + j * per_message

-- how many messages channel i holds
abbrev pub count_at : List ℕ → ℕ → ℕ
count_at slots i = get_or slots i 0

-- n numbers from `at` on become value 0, value 1 and so on
unfoldable pub filled : List ℕ → ℕ → (ℕ → ℕ) → ℕ → List ℕ
filled slots at value zero = slots
filled slots at value (suc n) = set (filled slots at value n) (at + n) (value n)

-- n numbers from `at` on become zero
abbrev pub zeroed : List ℕ → ℕ → ℕ → List ℕ
zeroed slots at n = filled slots at (λ j. 0) n

-- the two words from `at` on
abbrev pub stored : List ℕ → ℕ → Words → List ℕ
stored slots at words = set (set slots at words.0) (at + 1) words.1

-- a message, in its two words, behind those of channel i; a full channel stays as it is
unfoldable pub put_on : List ℕ → ℕ → Words → List ℕ
put_on slots i words =
    let held = count_at slots i in
    cond (ltb held capacity) (set (stored slots (slot i held) words) i (held + 1)) slots

-- the message in the first slot of channel i, which is the oldest; of the first number what a word of 32 bits
-- holds
unfoldable pub oldest_on : List ℕ → ℕ → Words
oldest_on slots i = record { 0 = get_or slots (slots_start i) 0 % 2 ^ 32; 1 = get_or slots (slots_start i + 1) 0 }

-- each of the seven slots from `at` on gets what the next one held
unfoldable pub shifted : List ℕ → ℕ → List ℕ
shifted slots at = filled slots at (λ j. get_or slots (at + per_message + j) 0) moved

-- channel i without its oldest message: the rest moves down, and the slot that falls free is zeroed
unfoldable pub removed : List ℕ → ℕ → List ℕ
removed slots i =
    let held = count_at slots i in
    let rest = zeroed (shifted slots (slots_start i)) (slot i (capacity - 1)) per_message in
    cond (eqb held 0) slots (set rest i (held - 1))

-- channel i without messages
unfoldable pub cleared : List ℕ → ℕ → List ℕ
cleared slots i = set (zeroed slots (slots_start i) per_channel) i 0
