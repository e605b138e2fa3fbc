-- The memory that a client is lent for what the servers reply (01, 'Desk': noted timestamps, pair sets,
-- acknowledgements).
--
-- It is four rows of numbers: for each of 13 servers its noted timestamp plus one, the size of its set,
-- its acknowledgement (0 or 1), and the four pairs of its set. What is not used is zero.
--
-- In order: the places; what a memory holds for each server; the memory of what a client holds; one server's
-- part replaced.
-- Assumes nothing.
use Rattle.std.specs.Prelude.{ℕ, zero, suc, ◌+◌, ◌*◌, ◌/◌, ◌%◌, ◌≤◌, ◌<◌, ◌≡◌, Bool, false, cond, not, List, [], ◌∷◌, ◌++◌, eqb, ltb, length, get_or, take, drop, set}
use Rattle.std.specs.Prelude.{Option, None, Some}
use Rattle.std.proofs.lemmas.List.Edits.{sets}
use mir.Val.{bool_byte}
use Rattle.message.specs.declared.Pair.{Pair}
use Rattle.message.specs.declared.ReadNumber.{ReadNumber}
use Rattle.register.specs.declared.Phase.{Phase}
use Rattle.register.specs.Settings.{most_servers}
use Rattle.register.specs.Client.{Client, set_limit}

-- ---- the places

-- where each row begins; the noted timestamps begin at 0
abbrev pub sizes_at : ℕ
sizes_at = most_servers

abbrev pub acks_at : ℕ
acks_at = 2 * most_servers

abbrev pub pairs_at : ℕ
pairs_at = 3 * most_servers

-- how many numbers there are: 91
abbrev pub replies_length : ℕ
replies_length = pairs_at + most_servers * set_limit

-- the numbers of the server at place i: its timestamp's, its set's size, its acknowledgement, its pair j's
abbrev pub note_at : List ℕ → ℕ → ℕ
note_at replies i = get_or replies i 0

abbrev pub size_at : List ℕ → ℕ → ℕ
size_at replies i = get_or replies (sizes_at + i) 0

abbrev pub ack_at : List ℕ → ℕ → ℕ
ack_at replies i = get_or replies (acks_at + i) 0

abbrev pub pair_at : List ℕ → ℕ → ℕ → ℕ
pair_at replies i j = get_or replies (pairs_at + i * set_limit + j) 0

-- ---- what a memory holds for the servers

-- a timestamp is stored plus one, so that zero is none
unfoldable pub note_of : ℕ → Option ℕ
note_of zero = None
note_of (suc stamp) = Some stamp

abbrev pub pairs_of : List ℕ → List Pair
pairs_of [] = []
pairs_of (number ∷ numbers) = record { 0 = number } ∷ pairs_of numbers

-- the four numbers of the set at place i, and of these as many as its size says
abbrev pub four_at : List ℕ → ℕ → List ℕ
four_at replies i = take set_limit (drop (pairs_at + i * set_limit) replies)

abbrev pub set_at : List ℕ → ℕ → List Pair
set_at replies i = pairs_of (take (size_at replies i) (four_at replies i))

-- by the server's number, from 1, what stands at its place; of a server without a place, nothing
abbrev pub by_number : {A : Type 0} → A → (ℕ → A) → ℕ → A
by_number nothing at_place zero = nothing
by_number nothing at_place (suc i) = cond (ltb i most_servers) (at_place i) nothing

unfoldable pub noted_in : List ℕ → ℕ → Option ℕ
noted_in replies = by_number None (λ i. note_of (note_at replies i))

unfoldable pub set_in : List ℕ → ℕ → List Pair
set_in replies = by_number [] (set_at replies)

unfoldable pub ack_in : List ℕ → ℕ → Bool
ack_in replies = by_number false (λ i. not (eqb (ack_at replies i) 0))

-- the client that a memory shows, in a phase and at a read number
abbrev pub held : Phase → ReadNumber → List ℕ → Client
held phase reads replies =
    record {
      phase = phase;
      reads = reads;
      noted = noted_in replies;
      sets = set_in replies;
      acks = ack_in replies;
    }

-- ---- the memory of what a client holds

-- value 0, value 1, .. value (n - 1)
unfoldable pub row : (ℕ → ℕ) → ℕ → List ℕ
row value zero = []
row value (suc n) = value 0 ∷ row (λ i. value (suc i)) n

unfoldable pub note_word : Option ℕ → ℕ
note_word None = 0
note_word (Some stamp) = suc stamp

-- the number of the pair at place j of a set, zero behind its last
unfoldable pub pair_word : List Pair → ℕ → ℕ
pair_word [] j = 0
pair_word (pair ∷ rest) zero = pair.0
pair_word (pair ∷ rest) (suc j) = pair_word rest j

unfoldable pub store_replies : Client → List ℕ
store_replies client =
    row (λ i. note_word (client.noted (suc i))) most_servers
    ++ row (λ i. length (client.sets (suc i))) most_servers
    ++ row (λ i. bool_byte (client.acks (suc i))) most_servers
    ++ row (λ i. pair_word (client.sets (suc (i / set_limit))) (i % set_limit)) (most_servers * set_limit)

-- ---- one server's part replaced

-- the noted timestamp at place i
abbrev pub put_note : List ℕ → ℕ → ℕ → List ℕ
put_note replies i stamp = set replies i (stamp + 1)

-- an acknowledgement at place i
abbrev pub put_ack : List ℕ → ℕ → List ℕ
put_ack replies i = set replies (acks_at + i) 1

-- the set at place i
unfoldable pub put_set : List ℕ → ℕ → List Pair → List ℕ
put_set replies i pairs =
    sets (set replies (sizes_at + i) (length pairs)) (pairs_at + i * set_limit) (row (pair_word pairs) set_limit)

-- the set at place i has at most four pairs, and the numbers behind them are zero
pub record Padded (replies : List ℕ) (i : ℕ) : Type 0 where
  pub size : size_at replies i ≤ set_limit
  pub zeros : (j : ℕ) → j < set_limit → size_at replies i ≤ j → pair_at replies i j ≡ 0
