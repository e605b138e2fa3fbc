-- A step D of a run is never refused 12, 'full tray'.
--
-- Why: a start is accepted only where every channel to an honest server has room for all that the operation
-- will put there (`slots_for`: a read's GET_INFO and DONE, a write's WRITE_INFO too); only the client itself
-- puts messages on its channels, and at each choice it puts no more than it has kept. So on every such
-- channel the messages fit, and with them the slots that are kept.
-- In order: what an outcome puts and keeps; what an event does; along a list of steps; the step D.
-- Assumes nothing.
use Rattle.register.proofs.Vocabulary.{update, Settings, servers, is_server, is_client, is_honest}
use Rattle.register.proofs.Vocabulary.{capacity, Client, started, with_ack, Response, World, Event}
use Rattle.register.proofs.Vocabulary.{refuses, begins, serves, takes, stops, lies, response_of, puts_up}
use Rattle.register.proofs.Vocabulary.{leaves_up, next_up, next_clients, apply, Step, D, Formats, oldest}
use Rattle.register.proofs.Vocabulary.{has_room, room_up, ladder, refusal_of, event_of, step_at, world_at}
use Rattle.basics.proofs.Prelude.{◌≡◌, refl, ap, true, cond, ◌&&◌, List, ◌∷◌, append-nil, Some, length}
use Rattle.basics.proofs.Prelude.{length-append, ℕ, zero, suc, ◌+◌, ◌≤◌, arith, eqb, leb, eqb-true, le-leb}
use Rattle.basics.proofs.Cases.{by_test, clash}
use Rattle.basics.proofs.Tests.{below_of}
use Rattle.refusal.specs.Numbers.{numbered}
use Rattle.register.specs.Steps.{is_empty}
use Rattle.register.proofs.Vocabulary.{Message, Phase}
use Rattle.register.proofs.Bounds.{honest_server, honest_not_faulty}
use Rattle.register.proofs.Enabled.{Enabled, slots_for, some_slot, enabled}
use Rattle.register.proofs.Outcomes.{Outcome, dropped, waits, shows, spends, sends, acks, ends}
use Rattle.register.proofs.Outcomes.{outcome, grown_phase}
use Rattle.register.proofs.Rooms.{room_up_lem}
use Rattle.register.proofs.Dropping.{nothing_put, at_channel}

-- ---- an outcome puts no more than was kept

outcome_slots : (settings : Settings) (d : ℕ) (self : Client) (k : ℕ) (message : Message)
    (response : Response) → Outcome settings d self k message response
    → length response.sends + slots_for response.client.phase ≤ slots_for self.phase
unfolding with_ack
outcome_slots settings d self k message response (dropped _) = omega arith
outcome_slots settings d self k message response (waits grown grows _ _) =
    let same : slots_for grown.phase ≡ slots_for self.phase =
    ap slots_for (grown_phase grows) in omega arith
outcome_slots settings d self k message response (shows grown pair grows was _) = rw was (omega arith)
outcome_slots settings d self k message response (spends grown pair entry grows was _ _) =
    rw was (omega arith)
outcome_slots settings d self k message response (sends grown pair entry grows was _ _) = rw was (omega arith)
outcome_slots settings d self k message response (acks entry count _ _ _) = omega arith
outcome_slots settings d self k message response (ends entry count _ was _) = rw was (omega arith)

-- ---- the messages on a channel, and the slots kept there

-- the first of the kept slots is for a GET_INFO that is on the channel already, or not kept at all
abbrev Kept : ℕ → List Message → Phase → Type 0
Kept n up phase = length up + slots_for phase ≤ suc n

module _ (settings : Settings) (judge : Formats) (world : World)
    (kept : (d k : ℕ) → is_honest settings k ≡ true
    → Kept capacity (world.up d k) (world.clients d).phase) where
  kept_next : (event : Event) → Enabled settings judge world event → (d k : ℕ) → is_honest settings k ≡ true
      → Kept capacity (next_up settings world event d k) (next_clients settings world event d).phase
  unfolding next_up leaves_up puts_up next_clients started update
  kept_next (refuses refusal) checked d k honest =
      rw (nothing_put (settings.faulty k) (world.up d k)) (kept d k honest)
  kept_next (begins d' phase) checked d k honest =
      rw (honest_not_faulty settings k honest, honest_server settings k honest) (by_test (eqb d' d)
      (λ e. let same = eqb-true d' d e in
      let room : length (world.up d k) + slots_for phase ≤ capacity =
      rw same at (room_up_lem settings judge world d' (slots_for phase) checked.room k honest) in
      rw (e, length-append) (omega arith))
      (λ e. rw (e, append-nil (world.up d k)) (kept d k honest)))
  kept_next (serves k' d' message rest) checked d k honest =
      rw (nothing_put (settings.faulty k) (cond (eqb k' k && eqb d' d) rest (world.up d k)))
      (at_channel (λ l. Kept capacity l (world.clients d).phase) k' d' k d rest (world.up d k)
      (λ server client. let channel : world.up d k ≡ message ∷ rest = rw (server, client) at
      checked.channel in
      let long : length (world.up d k) ≡ length (message ∷ rest) = ap length channel in
      let old = kept d k honest in
      omega arith)
      (kept d k honest))
  kept_next (takes d' k' message rest) checked d k honest =
      rw (honest_not_faulty settings k honest, honest_server settings k honest) (by_test (eqb d' d)
      (λ e. let fewer = outcome_slots settings d (world.clients d) k' message _
      (outcome settings d (world.clients d) k' message) in
      let old = kept d k honest in
      rw (e, eqb-true d' d e, length-append) (omega arith))
      (λ e. rw (e, append-nil (world.up d k)) (kept d k honest)))
  kept_next (stops d') checked d k honest =
      rw (nothing_put (settings.faulty k) (world.up d k)) (kept d k honest)
  kept_next (lies k' d' message) checked d k honest =
      rw (nothing_put (settings.faulty k) (world.up d k)) (kept d k honest)

  -- so there is room for what a client puts on its channels
  room_kept : (d k : ℕ) (message : Message)
      → room_up settings judge world d (length (response_of settings world d k message).sends) ≡ true
  unfolding room_up has_room
  room_kept d k message =
      below_of _ (servers settings)
      (λ i less. by_test (is_honest settings (suc i)) (λ e. rw e (fits i e)) (λ e. rw e refl))
    where
      fits : (i : ℕ) → is_honest settings (suc i) ≡ true
          → leb (length (world.up d (suc i)) + length (response_of settings world d k message).sends)
          capacity ≡ true
      fits i honest =
          let fewer = outcome_slots settings d (world.clients d) k message _
          (outcome settings d (world.clients d) k message) in
          let old = kept d (suc i) honest in
          let one = some_slot (response_of settings world d k message).client.phase in
          let room : length (world.up d (suc i)) + length
          (response_of settings world d k message).sends ≤ capacity = omega arith in
          le-leb _ _ room

  not_full : (d k : ℕ) → refusal_of settings judge world (D d k) ≡ Some (numbered 12) → ⊥
  unfolding refusal_of ladder
  not_full d k h =
      by_test (is_client settings d && is_server settings k)
      (λ a. by_test (world.stopped d) (λ b. let h' = rw (a, b) at h in clash (cc))
      (λ b. by_test (is_empty (world.down d k)) (λ c. let h' = rw (a, b, c) at h in clash (cc))
      (λ c. let h' = rw (a, b, c, room_kept d k (oldest (world.down d k))) at h in clash (cc))))
      (λ a. let h' = rw a at h in clash (cc))

-- ---- along a list of steps

module _ (settings : Settings) (judge : Formats) (steps : List Step) where
  kept_at : (i d k : ℕ) → is_honest settings k ≡ true
      → Kept capacity ((world_at settings judge steps i).up d k)
      ((world_at settings judge steps i).clients d).phase
  unfolding world_at apply
  kept_at zero d k honest = omega arith
  kept_at (suc i) d k honest =
      kept_next settings judge (world_at settings judge steps i) (kept_at i)
      (event_of settings judge (world_at settings judge steps i) (step_at settings judge steps i))
      (enabled settings judge (world_at settings judge steps i) (step_at settings judge steps i)) d k honest

  pub never_full : (i d k : ℕ)
      → refusal_of settings judge (world_at settings judge steps i) (D d k) ≡ Some (numbered 12) → ⊥
  never_full i d k h = not_full settings judge (world_at settings judge steps i) (kept_at i) d k h
