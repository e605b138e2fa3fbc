-- The ladders of refusals stand in the table's order.
--
-- So the first rung that applies is the lowest number that applies (01: 'The lowest number that applies is
-- returned'): by looking at each list, whatever its tests.
-- Assumes nothing.
use Rattle.basics.proofs.Prelude.{◌≡◌, refl, true}
use Rattle.refusal.specs.Ladder.{rising}
use Rattle.register.proofs.Vocabulary.{Settings, World, Step, R, W, K, D, C, L, Formats, ladder}
use Rattle.register.specs.Settings.{setup_ladder}

pub setup_rises : (settings : Settings) → rising 0 (setup_ladder settings) ≡ true
setup_rises settings = refl

pub ladder_rises : (settings : Settings) (judge : Formats) (world : World) (step : Step)
    → rising 0 (ladder settings judge world step) ≡ true
unfolding ladder
ladder_rises settings judge world (R d) = refl
ladder_rises settings judge world (W d entry) = refl
ladder_rises settings judge world (K k d) = refl
ladder_rises settings judge world (D d k) = refl
ladder_rises settings judge world (C d) = refl
ladder_rises settings judge world (L k d bytes) = refl
