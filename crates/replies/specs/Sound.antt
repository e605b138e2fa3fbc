-- When a memory of replies is sound (01, 'Rehearsal': 'A state is sound when ..').
--
-- Of n servers, timestamps and sets are used while the client reads, acknowledgements while it stores. What
-- is not used is zero.
-- Assumes nothing.
use Rattle.std.specs.Prelude.{ℕ, suc, ◌^◌, Bool, true, cond, ◌&&◌, ◌||◌, List, [], ◌∷◌, eqb, leb, ltb, length}
use Rattle.basics.specs.Tests.{all_pass, all_below}
use Rattle.message.specs.declared.Pair.{Pair}
use Rattle.message.specs.Pair.{below, stamp_bits}
use Rattle.register.specs.Settings.{most_servers}
use Rattle.register.specs.Client.{set_limit}
use Rattle.replies.specs.Replies.{replies_length, note_at, size_at, ack_at, pair_at, set_in}

-- a pair is below the first of a list
abbrev pub is_first : Pair → List Pair → Bool
is_first pair [] = true
is_first pair (other ∷ rest) = below pair other

-- 'sets are in strict order'
unfoldable pub is_rising : List Pair → Bool
is_rising [] = true
is_rising (pair ∷ rest) = is_first pair rest && is_rising rest

-- number j of the set at place i belongs to a pair or is zero
abbrev pub is_past : List ℕ → ℕ → ℕ → Bool
is_past replies i j = ltb j (size_at replies i) || eqb (pair_at replies i j) 0

-- 'unused places are zero', behind the last pair of the set at place i
unfoldable pub is_padded : List ℕ → ℕ → Bool
is_padded replies i = all_below (is_past replies i) set_limit

-- a number that is used is at most its limit, and one that is not is zero
abbrev pub is_within : Bool → ℕ → ℕ → Bool
is_within used limit number = leb number (cond used limit 0)

-- the highest timestamp, of 24 bits, plus one
abbrev pub most_noted : ℕ
most_noted = 2 ^ stamp_bits

-- the server at place i, whose timestamp and set, and whose acknowledgement, are used or not
unfoldable pub is_sound_at : Bool → Bool → List ℕ → ℕ → Bool
is_sound_at reading storing replies i =
    all_pass
    (is_within reading most_noted (note_at replies i)
    ∷ is_within reading set_limit (size_at replies i)
    ∷ is_within storing 1 (ack_at replies i)
    ∷ is_rising (set_in replies (suc i))
    ∷ is_padded replies i
    ∷ [])

-- the whole memory, of which the places of n servers are used
unfoldable pub are_sound : ℕ → Bool → Bool → List ℕ → Bool
are_sound n reading storing replies =
    eqb (length replies) replies_length
    && all_below (λ i. is_sound_at (ltb i n && reading) (ltb i n && storing) replies i) most_servers
