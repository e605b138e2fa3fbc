-- Every world that a list of steps leads to is well formed.
--
-- Why: the setup is, and every event keeps it so: servers change only by a client's message (`WellServer`),
-- clients only by a start or a server's message (`WellClient`), and channels within their room
-- (`WellChannels`). Only servers, clients and channels that are used change at all.
-- Assumes nothing.
use Rattle.basics.proofs.Prelude.{◌≡◌, refl, sym, ◌∙◌, subst, false, List, ℕ, zero, suc, arith}
use Rattle.basics.proofs.Cases.{by_either, true_or_false}
use Rattle.register.specs.Settings.{Settings, Accepted, is_client, is_honest}
use Rattle.register.specs.Server.{Server, new_server}
use Rattle.register.specs.Client.{Client, new_client}
use Rattle.register.specs.World.{World, new_world, Event, stops, apply}
use Rattle.register.specs.Steps.{Step, Formats, event_of}
use Rattle.register.specs.History.{step_at, world_at}
use Rattle.register.specs.WellFormed.{FromClient, FromServer, WellPhase, WellServer, WellClient}
use Rattle.register.specs.WellFormed.{WellFormed}
use Rattle.register.proofs.Vocabulary.{Response, Phase, Idle, Reading, ReadingForWrite, Storing}
use Rattle.register.proofs.Enabled.{Enabled, Starts, enabled}
use Rattle.register.proofs.Lawful.{Lawful}
use Rattle.register.proofs.Frames.{ServerNext, kept, served, server_next, ClientNext, same, starts}
use Rattle.register.proofs.Frames.{responds, client_next, stopped_next}
use Rattle.register.proofs.WellServer.{well_after}
use Rattle.register.proofs.WellClient.{well_cleared, well_started}
use Rattle.register.proofs.WellChannels.{oldest_kind, well_empty, well_response, up_next, down_next}

-- ---- the setup

well_new_server : (settings : Settings) → WellServer settings new_server
well_new_server settings = record { pair = omega arith; readers = λ d h. refl }

pub well_new : (settings : Settings) (judge : Formats) → WellFormed settings judge new_world
well_new settings judge =
    record {
      server = λ k. well_new_server settings;
      client = λ d. well_cleared settings judge Idle (record { 0 = 0 }) tt (omega arith);
      up = λ d k. well_empty FromClient;
      down = λ d k. well_empty FromServer;
      server_unused = λ k h. refl;
      client_unused = λ d h. refl;
      stopped_unused = λ d h. refl;
      up_unused = λ d k h. refl;
      down_unused = λ d k h. refl;
      down_drops = λ d k h. refl;
    }

starts_well : (judge : Formats) (phase : Phase) → Starts judge phase → WellPhase judge phase
starts_well judge Idle start = tt
starts_well judge Reading start = tt
starts_well judge (ReadingForWrite entry) start = start
starts_well judge (Storing entry count) start = absurd start

module _ (settings : Settings) (judge : Formats) (accepted : Accepted settings) (lawful : Lawful judge)
    (world : World) (well : WellFormed settings judge world) where
  -- ---- servers, clients, the stopped: each is well formed, and as at setup if it is not used

  server_well : (event : Event) (k : ℕ) {server : Server} → ServerNext settings judge world event k server
      → WellServer settings server × (is_honest settings k ≡ false → server ≡ new_server)
  server_well event k kept = (well.server k, well.server_unused k)
  server_well event k (served d message rest _ checked) = (
    well_after settings (world.servers k) d checked.client (well.server k) message
        (oldest_kind FromClient (world.up d k) message rest checked.channel (well.up d k)),
    λ h. absurd (true_or_false _ checked.honest h),
  )

  client_well : (event : Event) (d : ℕ) {self : Client} → ClientNext settings judge world event d self
      → WellClient settings judge self × (is_client settings d ≡ false → self ≡ new_client)
  client_well event d (same _ _) = (well.client d, well.client_unused d)
  client_well event d (starts phase _ checked) = (
    well_started settings judge (world.clients d) phase (starts_well judge phase checked.phase)
        checked.below,
    λ h. absurd (true_or_false _ checked.client h),
  )
  client_well event d (responds taken response is _) = (
    subst (λ (r : Response). WellClient settings judge r.client) (sym is)
        (well_response settings judge accepted lawful world well d taken.server taken.message
        taken.rest taken.enabled
        ).client,
    λ h. absurd (true_or_false _ taken.enabled.client h),
  )

  stopped_unused_lem : (event : Event) → Enabled settings judge world event → (d : ℕ)
      → is_client settings d ≡ false → (apply settings world event).stopped d ≡ false
  stopped_unused_lem event checked d h =
      by_either (stopped_next settings judge world event d) (λ q. q ∙ well.stopped_unused d h)
      (λ q. let on : Enabled settings judge world (stops d) = subst (Enabled settings judge world)
      q.0 checked in
      absurd (true_or_false _ on.client h))

  -- ---- every event

  pub well_next : (event : Event) → Enabled settings judge world event
      → WellFormed settings judge (apply settings world event)
  unfolding apply
  well_next event checked =
      record {
        server = λ k. (server_well event k (server_next settings judge world event checked k)).0;
        client = λ d. (client_well event d (client_next settings judge world event checked d)).0;
        up = λ d k. (up_next settings judge accepted lawful world well event checked d k).channel;
        down = λ d k. (down_next settings judge accepted lawful world well event checked d k).channel;
        server_unused = λ k. (server_well event k (server_next settings judge world event checked k)).1;
        client_unused = λ d. (client_well event d (client_next settings judge world event checked d)).1;
        stopped_unused = stopped_unused_lem event checked;
        up_unused = λ d k. (up_next settings judge accepted lawful world well event checked d k).unused;
        down_unused = λ d k. (down_next settings judge accepted lawful world well event checked d k).unused;
        down_drops = λ d k. (down_next settings judge accepted lawful world well event checked d k).drops;
      }

  -- every step, from any well-formed world
  pub well_step : (step : Step)
      → WellFormed settings judge (apply settings world (event_of settings judge world step))
  well_step step = well_next (event_of settings judge world step) (enabled settings judge world step)

-- ---- every list of steps

module _ (settings : Settings) (judge : Formats) (accepted : Accepted settings) (lawful : Lawful judge)
    (steps : List Step) where
  pub well_formed_lem : (i : ℕ) → WellFormed settings judge (world_at settings judge steps i)
  unfolding world_at
  well_formed_lem zero = well_new settings judge
  well_formed_lem (suc i) =
      well_step settings judge accepted lawful (world_at settings judge steps i) (well_formed_lem i)
      (step_at settings judge steps i)
