-- The order of refusals of each step, by its tests, with the numbers of paper 01's table.
--
-- Stated here once: the model gives each ladder its tests on a world (`Steps`), the code its own tests.
-- In order: R, W, K, D, C, L. That each rises is in `proofs/Ladders`.
-- Assumes nothing.
use Rattle.std.specs.Prelude.{Bool, List, [], ◌∷◌}
use Rattle.refusal.specs.Ladder.{Rung, ◌whenever◌}

-- R
abbrev pub read_ladder : (absent stopped busy exhausted full : Bool) → List Rung
read_ladder absent stopped busy exhausted full =
    4 whenever absent
    ∷ 6 whenever stopped
    ∷ 7 whenever busy
    ∷ 11 whenever exhausted
    ∷ 12 whenever full
    ∷ []

-- W
abbrev pub write_ladder : (absent stopped busy no_entry exhausted full : Bool) → List Rung
write_ladder absent stopped busy no_entry exhausted full =
    4 whenever absent
    ∷ 6 whenever stopped
    ∷ 7 whenever busy
    ∷ 8 whenever no_entry
    ∷ 11 whenever exhausted
    ∷ 12 whenever full
    ∷ []

-- K
abbrev pub serve_ladder : (absent faulty empty full : Bool) → List Rung
serve_ladder absent faulty empty full =
    4 whenever absent
    ∷ 5 whenever faulty
    ∷ 10 whenever empty
    ∷ 12 whenever full
    ∷ []

-- D
abbrev pub take_ladder : (absent stopped empty full : Bool) → List Rung
take_ladder absent stopped empty full =
    4 whenever absent
    ∷ 6 whenever stopped
    ∷ 10 whenever empty
    ∷ 12 whenever full
    ∷ []

-- C
abbrev pub stop_ladder : (absent stopped : Bool) → List Rung
stop_ladder absent stopped = 4 whenever absent ∷ 6 whenever stopped ∷ []

-- L
abbrev pub lie_ladder : (absent honest malformed full : Bool) → List Rung
lie_ladder absent honest malformed full =
    4 whenever absent
    ∷ 5 whenever honest
    ∷ 9 whenever malformed
    ∷ 12 whenever full
    ∷ []
