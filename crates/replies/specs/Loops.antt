-- What the inner functions compute, each in the shape of its loop.
-- A reader of the public contracts needs none of it.
--
-- In order: a number in use; the client of a memory alone, and what counts by it; a candidate above a choice,
-- and the choice after one more set; the place of a pair in a set, and the numbers of a set with a pair put
-- there.
-- Assumes nothing.
use Rattle.std.specs.Prelude.{ℕ, suc, ◌+◌, ◌-◌, Bool, true, cond, not, List, [], ◌∷◌, ◌++◌, eqb, ltb, get_or, take, drop}
use Rattle.std.specs.Prelude.{Option, None, Some}
use Rattle.message.specs.declared.Pair.{Pair}
use Rattle.message.specs.Pair.{below}
use Rattle.register.specs.declared.Phase.TheVariants.{Idle}
use Rattle.register.specs.Client.{Client, higher, counts}
use Rattle.replies.specs.Replies.{held}

-- the number i behind at is in use
abbrev pub is_used : List ℕ → ℕ → ℕ → Bool
is_used replies at i = not (eqb (get_or replies (at + i) 0) 0)

-- what a memory shows, whatever the phase and the read number
abbrev pub held_in : List ℕ → Client
held_in = held Idle (record { 0 = 0 })

-- a pair counts, by what the memory shows (the client's number does not matter)
abbrev pub counts_in : ℕ → ℕ → List ℕ → Pair → Bool
counts_in n f replies = counts n f 0 (held_in replies)

-- a pair is above what was chosen so far
abbrev pub is_above : Pair → Option Pair → Bool
is_above pair None = true
is_above pair (Some best) = below best pair

-- the best choice so far, with the pairs of one more set
unfoldable pub best_of : (Pair → Bool) → List Pair → Option Pair → Option Pair
best_of test [] best = best
best_of test (pair ∷ rest) best =
    cond (test pair) (higher pair (best_of test rest best)) (best_of test rest best)

-- how many pairs at the head of a set are below a pair
unfoldable pub rank_of : Pair → List Pair → ℕ
rank_of pair [] = 0
rank_of pair (other ∷ rest) = cond (below other pair) (suc (rank_of pair rest)) 0

-- a pair put at place j of a set
abbrev pub placed_at : ℕ → Pair → List Pair → List Pair
placed_at j pair pairs = take j pairs ++ pair ∷ drop j pairs

-- number `place` of the numbers from at on with a number put at place j
abbrev pub widened_by : List ℕ → ℕ → ℕ → ℕ → ℕ → ℕ
widened_by replies at j number place =
    cond (ltb place j) (get_or replies (at + place) 0)
    (cond (eqb place j) number (get_or replies (at + place - 1) 0))
