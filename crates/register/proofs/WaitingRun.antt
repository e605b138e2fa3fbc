-- Along a run, a working client that reads waits for each honest server as `Waiting` says.
--
-- Why: the setup reads nothing, and `Live` has every event. What it asks for: no message of a later read is
-- on the channels when a client starts (`Fresh`); and nothing from an honest server, on a channel or in a
-- set, is above its present pair, since its timestamp is not (`Low`), both are genuine (`Genuine`), and one
-- timestamp has one pair (`OnePair`).
-- Assumes nothing.
use Rattle.register.proofs.Vocabulary.{Member, is_client, is_honest, is_reading, world_at}
use Rattle.basics.proofs.Prelude.{◌≡◌, refl, true, false, inl, ℕ, zero, suc, ◌≤◌}
use Rattle.register.proofs.Vocabulary.{Message, Pair, stamp}
use Rattle.register.proofs.Bounds.{client_small}
use Rattle.register.proofs.Run.{Run, world_in, event_in, enabled_at}
use Rattle.register.proofs.Reachable.{well_formed_lem}
use Rattle.register.proofs.Carried.{Carries, carried}
use Rattle.register.proofs.Low.{low}
use Rattle.register.proofs.Genuine.{Known, genuine}
use Rattle.register.proofs.Fresh.{fresh}
use Rattle.register.proofs.OnePair.{not_above}
use Rattle.register.proofs.WaitingTakes.{Fits}
use Rattle.register.proofs.Live.{WaitsAt, not_reading, live}

module _ (run : Run) where
  -- a pair that an honest server has sent is genuine, and not above the server's present one
  fits : (n d k : ℕ) → is_honest run.settings k ≡ true → (message : Message)
      → Member message ((world_in run n).down d k) → (pair : Pair) → Carries message pair
      → Fits ((world_in run n).clients d) ((world_in run n).servers k) k pair
  fits n d k honest message member pair carries =
      let present = (genuine run n).server k in
      let known =
      carried (Known run n) message pair carries ((genuine run n).down d k honest message member) in
      let below = carried (λ q. stamp q ≤ stamp ((world_in run n).servers k).pair) message pair carries
      ((low run n).channels d k honest message member) in
      record {
        ordered = (((well_formed_lem run.settings run.judge run.accepted run.lawful
            run.steps n).client d).sets k).ordered;
        low = not_above run n pair _ known present below;
        top = λ z mz. not_above run n z _ ((genuine run n).sets d k honest z mz) present
            (((low run n).clients d k honest).sets z mz);
      }

  pub waiting : (n d k : ℕ) → is_client run.settings d ≡ true → is_honest run.settings k ≡ true
      → (world_in run n).stopped d ≡ false → is_reading ((world_in run n).clients d).phase ≡ true
      → WaitsAt (world_in run n) d k
  unfolding world_at
  waiting zero d k client honest works reading = absurd (not_reading _ reading (inl refl))
  waiting (suc n) d k client honest works reading =
      live run.settings run.judge (world_in run n) d k
      (client_small run.settings run.accepted d client) honest
      ((fresh run n).asked d k) ((fresh run n).told d k honest) (fits n d k honest)
      (waiting n d k client honest) (event_in run n) (enabled_at run n) works reading
