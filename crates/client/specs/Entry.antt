-- The client end as its user calls it: the refusals of each entry point, lowest first, and its outcome
-- otherwise.
--
-- Refused, a step leaves the memory as it was and sends nothing.
--
-- In order: refusal or not; who there is; a read and a write; bytes from a server. There is no entry point
-- for the setup: it is a memory of zeros (proofs/Memory, `store_new`).
-- Assumes nothing.
use Rattle.std.specs.Prelude.{ℕ, Bool, false, not, ◌&&◌, List, [], ◌∷◌, leb, Ok, Err}
use Rattle.std.specs.Prelude.{Option, None, Some}
use Rattle.basics.specs.Tests.{is_up_to}
use Rattle.refusal.specs.declared.Refusal.{Refusal}
use Rattle.refusal.specs.Ladder.{Rung, ◌whenever◌, lowest}
use Rattle.licence.specs.Entry.{is_licence}
use Rattle.message.specs.declared.Entry.{Entry}
use Rattle.message.specs.Layout.{Unpacked}
use Rattle.message.specs.Layout.{unpack_of, last_read, goes_down}
use Rattle.register.specs.declared.Phase.{Phase}
use Rattle.register.specs.declared.Phase.TheVariants.{Reading, ReadingForWrite}
use Rattle.register.specs.Ladders.{read_ladder, write_ladder}
use Rattle.register.specs.Settings.{most_clients}
use Rattle.register.specs.Client.{is_idle}
use Rattle.client.specs.Memory.{phase_in, reads_in}
use Rattle.client.specs.Sound.{is_sound_memory}
use Rattle.client.specs.Outcome.{After, started_of, taken_of}

-- ---- refusal or not

-- a refusal sends nothing and leaves the memory as it was
abbrev pub refused_by : List ℕ → Refusal → After
refused_by memory why = record { memory = memory; sends = []; answer = Err why }

-- 01's answer: WENT, READ, WROTE or SPENT as the step has it, or REFUSED 3, 4, 7, 8, 9 or 11
abbrev pub decided : List ℕ → Option Refusal → After → After
decided memory None result = result
decided memory (Some why) result = refused_by memory why

-- ---- who there is: clients 1 to 6, and servers 1 to n

abbrev pub is_client : ℕ → Bool
is_client = is_up_to most_clients

abbrev pub is_server : ℕ → ℕ → Bool
is_server = is_up_to

-- ---- a read, and a write with its entry, of client d, of n servers of which f may be faulty, in its memory

abbrev is_busy : List ℕ → Bool
is_busy memory = not (is_idle (phase_in memory))

abbrev is_exhausted : List ℕ → Bool
is_exhausted memory = leb last_read (reads_in memory).0

-- the ladders of `register`, whose `stopped` and `full` are false here: an end alone knows neither
abbrev pub read_refusals : ℕ → ℕ → ℕ → List ℕ → List Rung
read_refusals d n f memory =
    3 whenever not (is_sound_memory n f memory)
    ∷ read_ladder (not (is_client d)) false (is_busy memory) (is_exhausted memory) false

-- a start whose entry, if it has one, is a licence entry or not
abbrev pub start_refusals : ℕ → ℕ → ℕ → List ℕ → Bool → List Rung
start_refusals d n f memory licensed =
    3 whenever not (is_sound_memory n f memory)
    ∷ write_ladder (not (is_client d)) false (is_busy memory) (not licensed) (is_exhausted memory) false

abbrev pub write_refusals : ℕ → ℕ → ℕ → List ℕ → Entry → List Rung
write_refusals d n f memory entry = start_refusals d n f memory (is_licence entry.0)

unfoldable pub read_of : ℕ → ℕ → ℕ → List ℕ → After
read_of d n f memory = decided memory (lowest (read_refusals d n f memory)) (started_of memory Reading)

unfoldable pub start_of : ℕ → ℕ → ℕ → List ℕ → Phase → Bool → After
start_of d n f memory phase licensed = decided memory (lowest (start_refusals d n f memory licensed))
    (started_of memory phase)

unfoldable pub write_of : ℕ → ℕ → ℕ → List ℕ → Entry → After
write_of d n f memory entry = start_of d n f memory (ReadingForWrite entry) (is_licence entry.0)

-- ---- bytes from server k

abbrev pub take_refusals : ℕ → ℕ → ℕ → List ℕ → ℕ → List ℕ → List Rung
take_refusals d n f memory k bytes =
    3 whenever not (is_sound_memory n f memory)
    ∷ 4 whenever not (is_client d && is_server n k)
    ∷ 9 whenever not (goes_down (unpack_of bytes))
    ∷ []

-- by what they unpack to
abbrev pub received_as : ℕ → ℕ → ℕ → List ℕ → ℕ → Unpacked → After
received_as d n f memory k (Ok message) = taken_of d n f memory k message
received_as d n f memory k (Err why) = refused_by memory why

unfoldable pub take_of : ℕ → ℕ → ℕ → List ℕ → ℕ → List ℕ → After
take_of d n f memory k bytes = decided memory (lowest (take_refusals d n f memory k bytes))
    (received_as d n f memory k (unpack_of bytes))
