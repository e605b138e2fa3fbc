-- What an event does to one channel.
--
-- A message on a channel after an event was there before or has just been put there (`up_cases`,
-- `down_cases`), and one that was there before stays, or is the one that is taken or served, or its channel
-- is emptied by a stop (`up_stays`, `down_stays`). What is put on a channel that does not drop is there
-- (`up_new`, `down_new`).
-- Assumes nothing.
use Rattle.register.proofs.Vocabulary.{Member, Settings, is_server, is_honest, server_sends, sent_to}
use Rattle.register.proofs.Vocabulary.{next_read, World, Event, refuses, begins, serves, takes, stops}
use Rattle.register.proofs.Vocabulary.{lies, response_of, puts_up, puts_down, leaves_up, leaves_down}
use Rattle.register.proofs.Vocabulary.{next_up, next_down, apply, Formats}
use Rattle.basics.proofs.Prelude.{◌≡◌, refl, true, false, ◌&&◌, ◌⊎◌, inl, inr, List, ◌∷◌, ℕ, eqb, eqb-true}
use Rattle.basics.proofs.Prelude.{eq-eqb}
use Rattle.basics.proofs.Cases.{by_test, by_either, both, true_or_false}
use Rattle.basics.proofs.Members.{member_left, member_right, member_cases, member_if}
use Rattle.register.proofs.Vocabulary.{Message, GetInfo}
use Rattle.register.proofs.Bounds.{honest_server, honest_not_faulty}
use Rattle.register.proofs.Enabled.{Enabled}
use Rattle.register.proofs.Dropping.{at_channel}
use Rattle.register.proofs.Sends.{Reply, replies}

module _ (settings : Settings) (judge : Formats) (world : World) where
  -- ---- channels from clients to servers

  -- client d puts a message on its channels
  abbrev pub Puts : Event → ℕ → Message → Type 0
  Puts (refuses refusal) d message = ⊥
  Puts (begins d' phase) d message = (d' ≡ d) × (message ≡ GetInfo (next_read (world.clients d')))
  Puts (serves k d' message' rest) d message = ⊥
  Puts (takes d' k message' rest) d message =
      (d' ≡ d) × Member message (response_of settings world d' k message').sends
  Puts (stops d') d message = ⊥
  Puts (lies k d' message') d message = ⊥

  pub puts_of : (event : Event) (d k : ℕ) (message : Message)
      → Member message (puts_up settings world event d k) → Puts event d message
  unfolding puts_up
  puts_of (refuses refusal) d k message member = member
  puts_of (begins d' phase) d k message member =
      let a = member_if (eqb d' d && is_server settings k) message _ member in (
        eqb-true d' d (both (eqb d' d) (is_server settings k) a.0).0,
        by_either a.1 (λ q. q) (λ q. absurd q),
      )
  puts_of (serves k' d' message' rest) d k message member = member
  puts_of (takes d' k' message' rest) d k message member =
      let a = member_if (eqb d' d && is_server settings k) message _ member in
      (eqb-true d' d (both (eqb d' d) (is_server settings k) a.0).0, a.1)
  puts_of (stops d') d k message member = member
  puts_of (lies k' d' message') d k message member = member

  pub of_puts : (event : Event) (d k : ℕ) (message : Message) → is_server settings k ≡ true
      → Puts event d message → Member message (puts_up settings world event d k)
  unfolding puts_up
  of_puts (refuses refusal) d k message there puts = puts
  of_puts (begins d' phase) d k message there puts = rw (eq-eqb d' d puts.0, there) (inl puts.1)
  of_puts (serves k' d' message' rest) d k message there puts = puts
  of_puts (takes d' k' message' rest) d k message there puts = rw (eq-eqb d' d puts.0, there) puts.1
  of_puts (stops d') d k message there puts = puts
  of_puts (lies k' d' message') d k message there puts = puts

  was_up : (event : Event) → Enabled settings judge world event → (d k : ℕ) (message : Message)
      → Member message (leaves_up settings world event d k) → Member message (world.up d k)
  unfolding leaves_up
  was_up (refuses refusal) checked d k message member = member
  was_up (begins d' phase) checked d k message member = member
  was_up (serves k' d' message' rest) checked d k message member =
      at_channel (λ (l : List Message). Member message l → Member message (world.up d k)) k' d' k d rest
      (world.up d k) (λ ek ed h'. rw (← ek, ← ed, checked.channel) (inr h')) (λ h'. h') member
  was_up (takes d' k' message' rest) checked d k message member = member
  was_up (stops d') checked d k message member = member
  was_up (lies k' d' message') checked d k message member = member

  pub up_cases : (event : Event) → Enabled settings judge world event → (d k : ℕ) (message : Message)
      → Member message ((apply settings world event).up d k)
      → Member message (world.up d k) ⊎ Puts event d message
  unfolding apply next_up
  up_cases event checked d k message member =
      by_either (member_cases message (leaves_up settings world event d k) _ member)
      (λ a. inl (was_up event checked d k message a))
      (λ a. by_test (settings.faulty k) (λ q. absurd (rw q at a))
      (λ q. inr (puts_of event d k message (rw q at a))))

  -- a message stays on its channel, or it is the one that is served
  leaves_up_lem : (event : Event) → Enabled settings judge world event → (d k : ℕ) (message : Message)
      → Member message (world.up d k) → Member message (leaves_up settings world event d k)
      ⊎ ((rest : List Message) × (event ≡ serves k d message rest))
  unfolding leaves_up
  leaves_up_lem (refuses refusal) checked d k message member = inl member
  leaves_up_lem (begins d' phase) checked d k message member = inl member
  leaves_up_lem (serves k' d' message' rest) checked d k message member =
      at_channel (λ l. Member message l
      ⊎ ((rest' : List Message) × (serves k' d' message' rest ≡ serves k d message rest')))
      k' d' k d rest (world.up d k)
      (λ ek ed. let h' : Member message (message' ∷ rest) = rw (← ek, ← ed, checked.channel) at member in
      by_either h' (λ q. inr (rest, rw (ek, ed, q) refl)) (λ q. inl q)) (inl member)
  leaves_up_lem (takes d' k' message' rest) checked d k message member = inl member
  leaves_up_lem (stops d') checked d k message member = inl member
  leaves_up_lem (lies k' d' message') checked d k message member = inl member

  pub up_stays : (event : Event) → Enabled settings judge world event → (d k : ℕ) (message : Message)
      → Member message (world.up d k) → Member message ((apply settings world event).up d k)
      ⊎ ((rest : List Message) × (event ≡ serves k d message rest))
  unfolding apply next_up
  up_stays event checked d k message member =
      by_either (leaves_up_lem event checked d k message member)
      (λ a. inl (member_left message (leaves_up settings world event d k) _ a)) (λ a. inr a)

  -- what a client puts on its channels is on those to honest servers
  pub up_new : (event : Event) (d k : ℕ) (message : Message) → is_honest settings k ≡ true
      → Puts event d message → Member message ((apply settings world event).up d k)
  unfolding apply next_up
  up_new event d k message honest puts =
      rw (honest_not_faulty settings k honest)
      (member_right message (leaves_up settings world event d k) (puts_up settings world event d k)
      (of_puts event d k message (honest_server settings k honest) puts))

  -- ---- channels from servers to clients

  -- server k answers a message, and the answer goes to client d
  pub record Answers (given : Event) (d k : ℕ) (answer : Message) : Type 0 where
    pub sender : ℕ
    pub message : Message
    pub rest : List Message
    pub event : given ≡ serves k sender message rest
    pub channel : world.up sender k ≡ message ∷ rest
    pub reply : Reply (world.servers k) sender message d answer

  was_down : (event : Event) → Enabled settings judge world event → (d k : ℕ) (message : Message)
      → Member message (leaves_down settings world event d k) → Member message (world.down d k)
  unfolding leaves_down
  was_down (refuses refusal) checked d k message member = member
  was_down (begins d' phase) checked d k message member = member
  was_down (serves k' d' message' rest) checked d k message member = member
  was_down (takes d' k' message' rest) checked d k message member =
      at_channel (λ (l : List Message). Member message l → Member message (world.down d k)) k' d' k d rest
      (world.down d k) (λ ek ed h'. rw (← ek, ← ed, checked.channel) (inr h')) (λ h'. h') member
  was_down (stops d') checked d k message member =
      by_test (eqb d' d) (λ q. absurd (rw q at member)) (λ q. rw q at member)
  was_down (lies k' d' message') checked d k message member = member

  puts_down_lem : (event : Event) → Enabled settings judge world event → (d k : ℕ) → is_honest settings k ≡ true
      → (message : Message) → Member message (puts_down settings world event d k) → Answers event d k message
  unfolding puts_down
  puts_down_lem (refuses refusal) checked d k honest message member = absurd member
  puts_down_lem (begins d' phase) checked d k honest message member = absurd member
  puts_down_lem (serves k' d' message' rest) checked d k honest message member =
      let a = member_if (eqb k' k) message _ member in
      rw (← (eqb-true k' k a.0)) (record {
        sender = d';
        message = message';
        rest = rest;
        event = refl;
        channel = checked.channel;
        reply = replies (world.servers k') d' message' d message a.1;
      })
  puts_down_lem (takes d' k' message' rest) checked d k honest message member = absurd member
  puts_down_lem (stops d') checked d k honest message member = absurd member
  puts_down_lem (lies k' d' message') checked d k honest message member =
      let a = member_if (eqb k' k && eqb d' d) message _ member in
      let q : k' ≡ k = eqb-true k' k (both (eqb k' k) (eqb d' d) a.0).0 in
      absurd (true_or_false (settings.faulty k) (rw q at checked.faulty)
      (honest_not_faulty settings k honest))

  pub down_cases : (event : Event) → Enabled settings judge world event → (d k : ℕ)
      → is_honest settings k ≡ true → (message : Message)
      → Member message ((apply settings world event).down d k)
      → Member message (world.down d k) ⊎ Answers event d k message
  unfolding apply next_down
  down_cases event checked d k honest message member =
      by_either (member_cases message (leaves_down settings world event d k) _ member)
      (λ a. inl (was_down event checked d k message a))
      (λ a. by_test (world.stopped d) (λ q. absurd (rw q at a))
      (λ q. inr (puts_down_lem event checked d k honest message (rw q at a))))

  -- a message stays, or it is the one that is taken, or its client stops
  leaves_down_lem : (event : Event) → Enabled settings judge world event → (d k : ℕ) (message : Message)
      → Member message (world.down d k) → Member message (leaves_down settings world event d k)
      ⊎ (((rest : List Message) × (event ≡ takes d k message rest)) ⊎ (event ≡ stops d))
  unfolding leaves_down
  leaves_down_lem (refuses refusal) checked d k message member = inl member
  leaves_down_lem (begins d' phase) checked d k message member = inl member
  leaves_down_lem (serves k' d' message' rest) checked d k message member = inl member
  leaves_down_lem (takes d' k' message' rest) checked d k message member =
      at_channel (λ l. Member message l
      ⊎ (((rest' : List Message) × (takes d' k' message' rest ≡ takes d k message rest'))
      ⊎ (takes d' k' message' rest ≡ stops d))) k' d' k d rest (world.down d k)
      (λ ek ed. let h' : Member message (message' ∷ rest) = rw (← ek, ← ed, checked.channel) at member in
      by_either h' (λ q. inr (inl (rest, rw (ek, ed, q) refl))) (λ q. inl q)) (inl member)
  leaves_down_lem (stops d') checked d k message member =
      by_test (eqb d' d) (λ q. inr (inr (rw (eqb-true d' d q) refl))) (λ q. rw q (inl member))
  leaves_down_lem (lies k' d' message') checked d k message member = inl member

  pub down_stays : (event : Event) → Enabled settings judge world event → (d k : ℕ) (message : Message)
      → Member message (world.down d k) → Member message ((apply settings world event).down d k)
      ⊎ (((rest : List Message) × (event ≡ takes d k message rest)) ⊎ (event ≡ stops d))
  unfolding apply next_down
  down_stays event checked d k message member =
      by_either (leaves_down_lem event checked d k message member)
      (λ a. inl (member_left message (leaves_down settings world event d k) _ a)) (λ a. inr a)

  -- what a server sends is on the channel to a working client
  pub down_new : (k d' : ℕ) (message' : Message) (rest : List Message) (d : ℕ) (message : Message)
      → world.stopped d ≡ false → Member message (sent_to d (server_sends (world.servers k) d' message'))
      → Member message ((apply settings world (serves k d' message' rest)).down d k)
  unfolding apply next_down puts_down
  down_new k d' message' rest d message works member =
      rw (works, eq-eqb k k refl)
      (member_right message (leaves_down settings world (serves k d' message' rest) d k)
      (sent_to d (server_sends (world.servers k) d' message')) member)
