-- A working client that reads waits, at every event.
--
-- `Waiting` and `WaitingTakes` have the changes at one client and one server; here each event is one of
-- them, or leaves the client, the server and their two channels as they are.
-- Assumes nothing.
use Rattle.basics.proofs.Prelude.{◌≡◌, refl, subst, true, false, cond, ◌&&◌, ◌⊎◌, inl, inr, List, [], ◌∷◌}
use Rattle.basics.proofs.Prelude.{◌++◌, append-nil, ℕ, ◌≤◌, eqb, eqb-true, eqb-false}
use mathlib.Core.Bool.{and-true, and-false}
use Rattle.register.proofs.Vocabulary.{Member, update, Settings, is_honest, next_server, server_sends}
use Rattle.register.proofs.Vocabulary.{sent_to, is_reading, with_ack, Response, World, Event, refuses}
use Rattle.register.proofs.Vocabulary.{begins, serves, takes, stops, lies, response_of, puts_up}
use Rattle.register.proofs.Vocabulary.{puts_down, leaves_up, leaves_down, next_up, next_down, next_servers}
use Rattle.register.proofs.Vocabulary.{next_clients, next_stopped, apply, Formats}
use Rattle.basics.proofs.Cases.{by_test, by_either, true_or_false, clash}
use Rattle.register.proofs.Vocabulary.{Entry, Message, GetInfo, Info, Pair, ReadNumber, WriteCounter}
use Rattle.register.proofs.Vocabulary.{Phase, Idle, Storing}
use Rattle.register.proofs.Bounds.{honest_server, honest_not_faulty}
use Rattle.register.proofs.Enabled.{Enabled}
use Rattle.register.proofs.Sends.{sent_direct}
use Rattle.register.proofs.Outcomes.{Grown, Ignored, Outcome, dropped, waits, shows, spends, sends}
use Rattle.register.proofs.Outcomes.{acks, ends, outcome}
use Rattle.register.proofs.Dropping.{nothing_put}
use Rattle.register.proofs.Waiting.{Waits, asks_start, asks_served, waits_other}
use Rattle.register.proofs.WaitingTakes.{Fits, waits_dropped, waits_grown, waits_elsewhere}
use Rattle.register.proofs.Carried.{Carries}

-- client d waits for server k
abbrev pub WaitsAt : World → ℕ → ℕ → Type 0
WaitsAt world d k = Waits (world.up d k) (world.down d k) (world.clients d) (world.servers k) d k

-- a client that reads is not idle, and does not store
pub not_reading : (phase : Phase) → is_reading phase ≡ true
    → (phase ≡ Idle) ⊎ ((entry : Entry) × (count : WriteCounter) × (phase ≡ Storing entry count)) → ⊥
unfolding is_reading
not_reading phase reading (inl e) = true_or_false false (rw e at reading) refl
not_reading phase reading (inr e) = true_or_false false (rw e.2 at reading) refl

module _ (settings : Settings) (judge : Formats) (world : World) (d k : ℕ) (range : (1 ≤ d) × (d ≤ 6))
    (honest : is_honest settings k ≡ true)
    (asked : (tag : ReadNumber) → Member (GetInfo tag) (world.up d k) → tag.0 ≤ (world.clients d).reads.0)
    (told : (tag : ReadNumber) (pair : Pair) → Member (Info tag pair) (world.down d k)
    → tag.0 ≤ (world.clients d).reads.0)
    (fits : (message : Message) → Member message (world.down d k) → (pair : Pair) → Carries message pair
    → Fits (world.clients d) (world.servers k) k pair)
    (old : world.stopped d ≡ false → is_reading (world.clients d).phase ≡ true → WaitsAt world d k) where
  right : settings.faulty k ≡ false
  right = honest_not_faulty settings k honest

  -- a message of client d' that server k serves
  served_waits : (d' : ℕ) (message : Message) (rest : List Message) → world.up d' k ≡ message ∷ rest
      → world.stopped d ≡ false → is_reading (world.clients d).phase ≡ true
      → Waits (cond (eqb d' d) rest (world.up d k))
      (world.down d k ++ sent_to d (server_sends (world.servers k) d' message)) (world.clients d)
      (next_server (world.servers k) d' message) d k
  served_waits d' message rest channel works reading =
      rw (sent_direct (world.servers k) d' message d range.0 range.1) (by_test (eqb d' d)
      (λ e. let q = eqb-true d' d e in
      let channel' : world.up d k ≡ message ∷ rest = rw q at channel in
      rw e (rw q (by_either (old works reading)
      (λ a. asks_served (world.up d k) (world.down d k) (world.clients d)
      (world.servers k) d k message rest channel' a) (λ a. let empty = a.channel in clash (cc)))))
      (λ e. rw e (waits_other (world.up d k) (world.down d k) (world.clients d)
      (world.servers k) d d' k message (eqb-false d' d e) (old works reading))))

  -- a message of server j that client d takes
  outcome_waits : (k' : ℕ) (message : Message) (rest : List Message) → world.down d k' ≡ message ∷ rest
      → world.stopped d ≡ false → (response : Response)
      → Outcome settings d (world.clients d) k' message response → is_reading response.client.phase ≡ true
      → Waits (world.up d k ++ response.sends) (cond (eqb k' k) rest (world.down d k)) response.client
      (world.servers k) d k
  unfolding with_ack
  outcome_waits k' message rest channel works response (dropped un) reading =
      rw (append-nil (world.up d k)) (by_test (eqb k' k) (λ e. let q = eqb-true k' k e in
      rw e (waits_dropped (world.up d k) (world.down d k) (world.clients d)
      (world.servers k) d k message rest
      (rw q at channel) reading (subst (λ (z : ℕ). Ignored (world.clients d) z message) q un)
      (old works reading))) (λ e. rw e (old works reading)))
  outcome_waits k' message rest channel works response (waits grown grows r c) reading =
      rw (append-nil (world.up d k)) (by_test (eqb k' k) (λ e. let q = eqb-true k' k e in
      let channel' : world.down d k ≡ message ∷ rest = rw q at channel in
      rw e (waits_grown (world.up d k) (world.down d k) (world.clients d)
      (world.servers k) d k message rest channel' (fits message (rw channel' (inl refl))) grown
      (subst (λ (z : ℕ). Grown (world.clients d) z message grown) q grows) (old works r)))
      (λ e. rw e (waits_elsewhere (world.up d k) (world.down d k) (world.clients d)
      (world.servers k) d k' k message grown grows (eqb-false k' k e) (old works r))))
  outcome_waits k' message rest channel works response (shows grown pair grows _ _) reading =
      absurd (not_reading _ reading (inl refl))
  outcome_waits k' message rest channel works response (spends grown pair entry grows _ _ _) reading =
      absurd (not_reading _ reading (inl refl))
  outcome_waits k' message rest channel works response (sends grown pair entry grows _ _ _) reading =
      absurd (not_reading _ reading (inr (_, _, refl)))
  outcome_waits k' message rest channel works response (acks entry count _ was _) reading =
      absurd (not_reading _ reading (inr (entry, count, was)))
  outcome_waits k' message rest channel works response (ends entry count _ _ _) reading =
      absurd (not_reading _ reading (inl refl))

  pub live : (event : Event) → Enabled settings judge world event
      → (apply settings world event).stopped d ≡ false
      → is_reading ((apply settings world event).clients d).phase ≡ true
      → WaitsAt (apply settings world event) d k
  unfolding apply next_up leaves_up puts_up next_down leaves_down puts_down next_clients next_servers next_stopped
      update
  live (refuses why) checked works reading =
      rw (nothing_put (settings.faulty k) (world.up d k), nothing_put (world.stopped d) (world.down d k))
      (old works reading)
  live (begins d' phase) checked works reading =
      rw (right, nothing_put (world.stopped d) (world.down d k)) (by_test (eqb d' d)
      (λ e. let q = eqb-true d' d e in
      rw (e, honest_server settings k honest)
      (rw q (inl (asks_start (world.up d k) (world.down d k) (world.clients d) phase k asked told))))
      (λ e. rw (e, append-nil (world.up d k)) (old works (rw e at reading))))
  live (serves k' d' message rest) checked works reading =
      rw (nothing_put (settings.faulty k) (cond (eqb k' k && eqb d' d) rest (world.up d k)), works)
      (by_test (eqb k' k) (λ e. let q = eqb-true k' k e in
      rw (e, q) (served_waits d' message rest (rw q at checked.channel) works reading))
      (λ e. rw (e, append-nil (world.down d k)) (old works reading)))
  live (takes d' k' message rest) checked works reading =
      rw (right, nothing_put (world.stopped d) (cond (eqb k' k && eqb d' d) rest (world.down d k)))
      (by_test (eqb d' d) (λ e. let q = eqb-true d' d e in
      let reading' : is_reading (response_of settings world d' k' message).client.phase ≡ true =
      rw e at reading in
      rw (e, honest_server settings k honest, and-true (eqb k' k))
      (rw q (outcome_waits k' message rest (rw q at checked.channel) works _
      (outcome settings d (world.clients d) k' message) (rw q at reading'))))
      (λ e. rw (e, and-false (eqb k' k), append-nil (world.up d k)) (old works (rw e at reading))))
  live (stops d') checked works reading =
      rw (
        nothing_put (settings.faulty k) (world.up d k),
        nothing_put (world.stopped d) (cond (eqb d' d) [] (world.down d k)),
      ) (by_test (eqb d' d) (λ e. absurd (true_or_false true refl (rw e at works)))
      (λ e. rw e (old (rw e at works) reading)))
  live (lies k' d' message) checked works reading =
      rw (nothing_put (settings.faulty k) (world.up d k)) (by_test (eqb k' k)
      (λ e. absurd (true_or_false (settings.faulty k) (rw (eqb-true k' k e) at checked.faulty) right))
      (λ e. rw (e, nothing_put (world.stopped d) (world.down d k)) (old works reading)))
