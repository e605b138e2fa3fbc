-- The order of timestamps and of pairs, part by part (01, section 'Message').
--
-- The parts are compared one after the other, the later ones only where the earlier are equal. That this is
-- the order of the packed numbers is the law of proofs/Pairs.
-- A reader of the public contracts needs none of it.
-- Assumes nothing.
use Rattle.std.specs.Prelude.{ℕ, Bool, ◌&&◌, ◌||◌, eqb, ltb}
use Rattle.message.specs.declared.Pair.{Pair}
use Rattle.message.specs.Pair.{counter, client, entry}

-- a lower first part, or the same one and a lower rest
abbrev pub first_then : ℕ → ℕ → Bool → Bool
first_then first second rest = ltb first second || (eqb first second && rest)

-- the first has the lower timestamp: by counter first, then by client
unfoldable pub earlier : Pair → Pair → Bool
earlier pair other = first_then (counter pair).0 (counter other).0 (ltb (client pair) (client other))

-- the first is the lower pair: by timestamp, then by entry
unfoldable pub lower : Pair → Pair → Bool
lower pair other =
    first_then (counter pair).0 (counter other).0
    (first_then (client pair) (client other) (ltb (entry pair).0 (entry other).0))
