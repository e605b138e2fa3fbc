-- A client in the memory that it is lent (01, 'Desk'): 95 numbers.
--
-- They are its read number, its phase as a number, the entry and the counter of its write, and what the
-- servers replied (`replies`). What a phase does not have is zero, and all zero is the setup.
--
-- In order: the places; a phase as numbers; the client that a step loads, and its head stored again; what a
-- memory shows, and the memory of what a model's client holds.
-- Assumes nothing.
use Rattle.std.specs.Prelude.{ℕ, ◌+◌, ◌^◌, ◌%◌, cond, List, [], ◌∷◌, ◌++◌, eqb, get_or, drop}
use Rattle.message.specs.declared.ReadNumber.{ReadNumber}
use Rattle.register.specs.declared.Phase.{Phase}
use Rattle.register.specs.declared.Phase.TheVariants.{Idle, Reading, ReadingForWrite, Storing}
use Rattle.register.specs.Client as model
use Rattle.register.specs.Client.{entry_of}
use Rattle.replies.specs.Replies.{held, store_replies, replies_length}
use Rattle.client.specs.declared.Client.{Client}

-- ---- the places

abbrev pub reads_at : ℕ
reads_at = 0

abbrev pub phase_at : ℕ
phase_at = 1

abbrev pub entry_at : ℕ
entry_at = 2

abbrev pub counter_at : ℕ
counter_at = 3

abbrev pub replies_at : ℕ
replies_at = 4

-- all of it
abbrev pub client_length : ℕ
client_length = replies_at + replies_length

-- ---- a phase as numbers

-- the codes of the phases
abbrev pub idle_code : ℕ
idle_code = 0

abbrev pub reading_code : ℕ
reading_code = 1

abbrev pub reading_for_write_code : ℕ
reading_for_write_code = 2

abbrev pub storing_code : ℕ
storing_code = 3

-- the phase of a code, with an entry and a counter where it has them; a code above the last stores too
unfoldable pub phase_of : ℕ → ℕ → ℕ → Phase
phase_of code entry count =
    cond (eqb code idle_code) Idle
    (cond (eqb code reading_code) Reading
    (cond (eqb code reading_for_write_code) (ReadingForWrite (record { 0 = entry }))
    (Storing (record { 0 = entry }) (record { 0 = count }))))

unfoldable pub code_of : Phase → ℕ
code_of Idle = idle_code
code_of Reading = reading_code
code_of (ReadingForWrite entry) = reading_for_write_code
code_of (Storing entry count) = storing_code

-- the counter, zero unless it stores; the entry is the model's `entry_of`
unfoldable pub counter_in : Phase → ℕ
counter_in Idle = 0
counter_in Reading = 0
counter_in (ReadingForWrite entry) = 0
counter_in (Storing entry count) = count.0

-- ---- the client of a step

-- the phase and the read number in a memory; of a number that is loaded to 32 bits the low ones count
abbrev pub phase_in : List ℕ → Phase
phase_in memory = phase_of (get_or memory phase_at 0) (get_or memory entry_at 0) (get_or memory counter_at 0 % 2 ^ 32)

abbrev pub reads_in : List ℕ → ReadNumber
reads_in memory = record { 0 = get_or memory reads_at 0 % 2 ^ 32 }

-- the client with its number, n and f, loaded
abbrev pub loaded : ℕ → ℕ → ℕ → List ℕ → Client
loaded d n f memory = record { number = d; n = n; f = f; phase = phase_in memory; reads = reads_in memory }

-- the four numbers before the replies
abbrev pub head_of : Phase → ReadNumber → List ℕ
head_of phase reads = reads.0 ∷ code_of phase ∷ (entry_of phase).0 ∷ counter_in phase ∷ []

-- a memory with the head of a client
abbrev pub stored : List ℕ → Client → List ℕ
stored memory client = head_of client.phase client.reads ++ drop replies_at memory

-- ---- the model's client

-- what a memory shows
abbrev pub view : List ℕ → model.Client
view memory = held (phase_in memory) (reads_in memory) (drop replies_at memory)

-- the memory of what a model's client holds
abbrev pub store : model.Client → List ℕ
store self = head_of self.phase self.reads ++ store_replies self
