-- When a client and its memory are sound (01, 'Rehearsal': 'A state is sound when ..').
--
-- In order: its phase; the client; the client and its replies; its memory. The conditions on the replies
-- stand in `replies`.
-- Assumes nothing.
use Rattle.std.specs.Prelude.{ℕ, ◌^◌, Bool, true, false, cond, ◌&&◌, List, [], ◌∷◌, eqb, leb, ltb, length, get_or, drop}
use Rattle.basics.specs.Tests.{all_pass}
use Rattle.licence.specs.Entry.{is_licence}
use Rattle.message.specs.Layout.{tag_bits, counter_bits}
use Rattle.register.specs.declared.Phase.{Phase}
use Rattle.register.specs.declared.Phase.TheVariants.{Idle, Reading, ReadingForWrite, Storing}
use Rattle.register.specs.Settings.{most_clients, are_servers_in_range}
use Rattle.register.specs.Client.{is_reading}
use Rattle.replies.specs.Sound.{are_sound}
use Rattle.client.specs.declared.Client.{Client}
use Rattle.client.specs.Memory.{reads_at, phase_at, entry_at, counter_at, replies_at, client_length}
use Rattle.client.specs.Memory.{reading_for_write_code, storing_code, phase_in}

-- 'a phase's entry is a licence entry', and a counter has 20 bits
unfoldable pub is_sound_phase : Phase → Bool
is_sound_phase Idle = true
is_sound_phase Reading = true
is_sound_phase (ReadingForWrite entry) = is_licence entry.0
is_sound_phase (Storing entry count) = is_licence entry.0 && ltb count.0 (2 ^ counter_bits)

-- storing, with whatever counter
unfoldable pub stores : Phase → Bool
stores Idle = false
stores Reading = false
stores (ReadingForWrite entry) = false
stores (Storing entry count) = true

-- the client: its number, n and f, and its read number are in range
unfoldable pub is_sound_client : Client → Bool
is_sound_client client =
    all_pass
    (leb 1 client.number
    ∷ leb client.number most_clients
    ∷ are_servers_in_range client.n client.f
    ∷ ltb client.reads.0 (2 ^ tag_bits)
    ∷ is_sound_phase client.phase
    ∷ [])

-- the client and its replies
unfoldable pub is_sound : Client → List ℕ → Bool
is_sound client replies = is_sound_client client && are_sound client.n (is_reading client.phase)
    (stores client.phase) replies

-- ---- the memory

-- the entry of a phase by its code: none before it writes, then a licence entry
abbrev pub is_sound_entry : ℕ → ℕ → Bool
is_sound_entry code entry = cond (ltb code reading_for_write_code) (eqb entry 0) (is_licence entry)

-- its counter: none unless it stores, then 20 bits
abbrev pub is_sound_counter : ℕ → ℕ → Bool
is_sound_counter code count = ltb count (cond (eqb code storing_code) (2 ^ counter_bits) 1)

-- a phase's code, its entry and its counter
unfoldable pub is_sound_head : ℕ → ℕ → ℕ → Bool
is_sound_head code entry count =
    all_pass (leb code storing_code ∷ is_sound_entry code entry ∷ is_sound_counter code count ∷ [])

-- the replies, in the phase that the memory has
abbrev pub are_sound_replies : ℕ → List ℕ → Bool
are_sound_replies n memory = are_sound n (is_reading (phase_in memory)) (stores (phase_in memory))
    (drop replies_at memory)

-- the whole memory of a client, of n servers of which f may be faulty
unfoldable pub is_sound_memory : ℕ → ℕ → List ℕ → Bool
is_sound_memory n f memory =
    all_pass
    (are_servers_in_range n f
    ∷ eqb (length memory) client_length
    ∷ ltb (get_or memory reads_at 0) (2 ^ tag_bits)
    ∷ is_sound_head (get_or memory phase_at 0) (get_or memory entry_at 0) (get_or memory counter_at 0)
    ∷ are_sound_replies n memory
    ∷ [])
