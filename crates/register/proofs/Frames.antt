-- What an event does to one client and to one server.
--
-- A client is as it was, or starts, or takes a message (`client_next`); a server is as it was, or serves one
-- (`server_next`, `server_after`). `Channels` has what it does to one channel.
-- Assumes nothing.
use Rattle.basics.proofs.Prelude.{◌≡◌, refl, ap, Bool, true, false, ◌⊎◌, inl, inr, List, ℕ, eqb, ne_eqb}
use Rattle.basics.proofs.Update.{update_at, update_same}
use Rattle.register.proofs.Vocabulary.{Settings, Server, next_server, Client, started, Response, World}
use Rattle.register.proofs.Vocabulary.{Event, refuses, begins, serves, takes, stops, lies, response_of}
use Rattle.register.proofs.Vocabulary.{next_servers, next_clients, next_stopped, apply, Formats}
use Rattle.register.proofs.Vocabulary.{Message, Phase}
use Rattle.register.proofs.Enabled.{Enabled}
use Rattle.register.proofs.Outcomes.{Outcome, outcome}

-- the event is a start of client d; client d takes a message
abbrev pub starts_at : Event → ℕ → Bool
starts_at (refuses refusal) d = false
starts_at (begins d' phase) d = eqb d' d
starts_at (serves k d' message rest) d = false
starts_at (takes d' k message rest) d = false
starts_at (stops d') d = false
starts_at (lies k d' message) d = false

abbrev pub takes_at : Event → ℕ → Bool
takes_at (refuses refusal) d = false
takes_at (begins d' phase) d = false
takes_at (serves k d' message rest) d = false
takes_at (takes d' k message rest) d = eqb d' d
takes_at (stops d') d = false
takes_at (lies k d' message) d = false

module _ (settings : Settings) (judge : Formats) (world : World) where
  -- the event is a step D of client d
  pub record Takes (given : Event) (d : ℕ) : Type 0 where
    pub server : ℕ
    pub message : Message
    pub rest : List Message
    pub event : given ≡ takes d server message rest
    pub enabled : Enabled settings judge world (takes d server message rest)

  -- client d after an event
  pub data ClientNext (event : Event) (d : ℕ) : Client → Type 0 where
    same : starts_at event d ≡ false → takes_at event d ≡ false → ClientNext event d (world.clients d)
    starts : (phase : Phase) → event ≡ begins d phase → Enabled settings judge world (begins d phase)
        → ClientNext event d (started (world.clients d) phase)
    responds : (taken : Takes event d) (response : Response)
        → response ≡ response_of settings world d taken.server taken.message
        → Outcome settings d (world.clients d) taken.server taken.message response
        → ClientNext event d response.client

  -- server k after an event
  pub data ServerNext (event : Event) (k : ℕ) : Server → Type 0 where
    kept : ServerNext event k (world.servers k)
    served : (d : ℕ) (message : Message) (rest : List Message) → event ≡ serves k d message rest
        → Enabled settings judge world (serves k d message rest)
        → ServerNext event k (next_server (world.servers k) d message)

  pub client_next : (event : Event) → Enabled settings judge world event → (d : ℕ)
      → ClientNext event d ((apply settings world event).clients d)
  unfolding apply next_clients
  client_next (refuses refusal) checked d = same refl refl
  client_next (begins d' phase) checked d =
      update_at (ClientNext (begins d' phase) d) world.clients d' d _
      (λ q. rw (← q) (starts phase refl checked)) (λ q. same (ne_eqb d' d q) refl)
  client_next (serves k d' message rest) checked d = same refl refl
  client_next (takes d' k message rest) checked d =
      update_at (ClientNext (takes d' k message rest) d) world.clients d' d _
      (λ q. rw (← q) (responds
      (record { server = k; message = message; rest = rest; event = refl; enabled = checked }) _ refl
      (outcome settings d' (world.clients d') k message))) (λ q. same refl (ne_eqb d' d q))
  client_next (stops d') checked d = same refl refl
  client_next (lies k d' message) checked d = same refl refl

  pub server_next : (event : Event) → Enabled settings judge world event → (k : ℕ)
      → ServerNext event k ((apply settings world event).servers k)
  unfolding apply next_servers
  server_next (refuses refusal) checked k = kept
  server_next (begins d' phase) checked k = kept
  server_next (serves k' d' message rest) checked k =
      update_at (ServerNext (serves k' d' message rest) k) world.servers k' k _
      (λ q. rw (← q) (served d' message rest refl checked)) (λ q. kept)
  server_next (takes d' k' message rest) checked k = kept
  server_next (stops d') checked k = kept
  server_next (lies k' d' message) checked k = kept

  -- whether client d has stopped is as it was, or it stops now
  pub stopped_next : (event : Event) (d : ℕ) → ((apply settings world event).stopped d ≡ world.stopped d)
      ⊎ ((event ≡ stops d) × ((apply settings world event).stopped d ≡ true))
  unfolding apply next_stopped
  stopped_next (refuses refusal) d = inl refl
  stopped_next (begins d' phase) d = inl refl
  stopped_next (serves k d' message rest) d = inl refl
  stopped_next (takes d' k message rest) d = inl refl
  stopped_next (stops d') d =
      update_at (λ b. (b ≡ world.stopped d) ⊎ ((stops d' ≡ stops d) × (b ≡ true))) world.stopped d' d true
      (λ q. inr (ap stops q, refl)) (λ q. inl refl)
  stopped_next (lies k d' message) d = inl refl

-- the server that serves a message
pub server_after : (settings : Settings) (world : World) (event : Event) (k d : ℕ) (message : Message)
    (rest : List Message) → event ≡ serves k d message rest
    → (apply settings world event).servers k ≡ next_server (world.servers k) d message
unfolding apply next_servers
server_after settings world event k d message rest q = rw (q, update_same) refl
