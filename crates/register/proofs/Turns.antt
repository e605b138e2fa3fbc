-- How an event turns a client's phase.
--
-- Six cases: the phase stays, and the client answers and sends nothing; it opens a read or a write; it shows
-- its choice; its write is spent; its write sends; its write ends. Each says what the step answers, so that
-- operations can be followed from their beginning to their end (`ReadStatus`, `WriteStatus`, `Open`).
-- Assumes nothing.
use Rattle.register.proofs.Vocabulary.{Member, counted, enough, Settings, servers, Client, started, Ok}
use Rattle.register.proofs.Vocabulary.{with_ack, Response, World, Event, refuses, begins, serves, takes}
use Rattle.register.proofs.Vocabulary.{stops, lies, response_of, answer_of, apply, Formats}
use Rattle.basics.proofs.Prelude.{◌≡◌, refl, sym, ap, ◌∙◌, subst, true, false, inl, inr, [], Some, ℕ, eqb}
use Rattle.basics.proofs.Prelude.{eqb-false, eq-eqb}
use Rattle.basics.proofs.Cases.{true_or_false}
use Rattle.register.proofs.Vocabulary.{Entry, Message, WriteInfo, WriteAck, Pair, WriteCounter, pair_of}
use Rattle.register.proofs.Vocabulary.{Went, Read, Wrote, Spent, Phase, Idle, Reading, ReadingForWrite}
use Rattle.register.proofs.Vocabulary.{Storing}
use Rattle.register.proofs.Enabled.{Enabled}
use Rattle.register.proofs.Outcomes.{choice, next_counter, Grown, grown_phase, Outcome, dropped, waits}
use Rattle.register.proofs.Outcomes.{shows, spends, sends, acks, ends}
use Rattle.register.proofs.Frames.{starts_at, takes_at, Takes, ClientNext, same, starts, responds}
use Rattle.register.proofs.Frames.{client_next}
use Rattle.register.proofs.Channels.{Puts}

module _ (settings : Settings) (judge : Formats) (world : World) (event : Event) (d : ℕ) where
  -- client d takes a message in a reading phase and chooses the pair
  pub record Decides (pair : Pair) : Type 0 where
    pub by : Takes settings judge world event d
    pub grown : Client
    pub grows : Grown (world.clients d) by.server by.message grown
    pub chosen : choice settings d grown ≡ Some pair

  pub data Turn (after : Client) : Type 0 where
    rested : after.phase ≡ (world.clients d).phase → starts_at event d ≡ false
        → (Takes settings judge world event d → answer_of settings world event ≡ Ok Went)
        → ((message : Message) → Puts settings judge world event d message → ⊥) → Turn after
    opened : (phase : Phase) → event ≡ begins d phase → Enabled settings judge world (begins d phase)
        → after.phase ≡ phase → Turn after
    showed : (pair : Pair) → Decides pair → (world.clients d).phase ≡ Reading → after.phase ≡ Idle
        → answer_of settings world event ≡ Ok (Read pair) → Turn after
    spent : (pair : Pair) (entry : Entry) → Decides pair → (world.clients d).phase ≡ ReadingForWrite entry
        → after.phase ≡ Idle → answer_of settings world event ≡ Ok Spent → Turn after
    sent : (pair : Pair) (entry : Entry) → Decides pair → (world.clients d).phase ≡ ReadingForWrite entry
        → after.phase ≡ Storing entry (next_counter pair) → answer_of settings world event ≡ Ok Went
        → Puts settings judge world event d (WriteInfo (pair_of (next_counter pair) d entry)) → Turn after
    ended : (entry : Entry) (count : WriteCounter) (taken : Takes settings judge world event d)
        → taken.message ≡ WriteAck count → (world.clients d).phase ≡ Storing entry count
        → enough (servers settings) settings.f
        (counted (with_ack (world.clients d) taken.server).acks (servers settings)) ≡ true
        → after.phase ≡ Idle → answer_of settings world event ≡ Ok (Wrote (pair_of count d entry)) → Turn after

  -- an event that is no turn of d's: it answers and puts nothing for d
  no_answer_now : takes_at event d ≡ false → Takes settings judge world event d
      → answer_of settings world event ≡ Ok Went
  no_answer_now h taken =
      let q = taken.event in absurd (true_or_false (eqb d d) (eq-eqb d d refl) (rw q at h))

  no_puts : (event : Event) → starts_at event d ≡ false → takes_at event d ≡ false → (message : Message)
      → Puts settings judge world event d message → ⊥
  no_puts (refuses refusal) no_start no_take message puts = puts
  no_puts (begins d' phase) no_start no_take message puts = eqb-false d' d no_start puts.0
  no_puts (serves k d' message' rest) no_start no_take message puts = puts
  no_puts (takes d' k message' rest) no_start no_take message puts = eqb-false d' d no_take puts.0
  no_puts (stops d') no_start no_take message puts = puts
  no_puts (lies k d' message') no_start no_take message puts = puts

  -- client d takes a message, and responds
  module _ (taken : Takes settings judge world event d) (response : Response)
      (is : response ≡ response_of settings world d taken.server taken.message) where
    answer_is : answer_of settings world event ≡ Ok response.answer
    unfolding answer_of
    answer_is = let q = taken.event in rw q (ap (λ (x : Response). Ok x.answer) (sym is))

    puts_is : (message : Message) → Member message response.sends
        → Puts settings judge world event d message
    puts_is message member =
        let event_is = taken.event in
        rw event_is (refl, subst (λ (other : Response). Member message other.sends) is member)

    is_put : (message : Message) → Puts settings judge world event d message
        → Member message response.sends
    is_put message puts =
        let puts' : Puts settings judge world
        (takes d taken.server taken.message taken.rest) d message =
        subst (λ (z : Event). Puts settings judge world z d message) taken.event puts in
        subst (λ (y : Response). Member message y.sends) (sym is) puts'.1

    rests : response.client.phase ≡ (world.clients d).phase → response.answer ≡ Went → response.sends ≡ []
        → Turn response.client
    rests phase went none =
        let q = taken.event in
        rested phase (rw q refl) (λ _. answer_is ∙ ap Ok went) (λ m h. subst (Member m) none (is_put m h))

  outcome_turn : (taken : Takes settings judge world event d) (response : Response)
      → response ≡ response_of settings world d taken.server taken.message
      → Outcome settings d (world.clients d) taken.server taken.message response
      → Turn response.client
  unfolding with_ack
  outcome_turn taken response is (dropped _) = rests taken response is refl refl refl
  outcome_turn taken response is (waits grown grows _ _) =
      rests taken response is (grown_phase grows) refl refl
  outcome_turn taken response is (shows grown pair grows was chose) =
      showed pair (record { by = taken; grown = grown; grows = grows; chosen = chose }) was refl
      (answer_is taken response is)
  outcome_turn taken response is (spends grown pair entry grows was chose _) =
      spent pair entry (record { by = taken; grown = grown; grows = grows; chosen = chose }) was refl
      (answer_is taken response is)
  outcome_turn taken response is (sends grown pair entry grows was chose _) =
      sent pair entry (record { by = taken; grown = grown; grows = grows; chosen = chose }) was refl
      (answer_is taken response is) (puts_is taken response is _ (inr (inl refl)))
  outcome_turn taken response is (acks entry count _ _ _) = rests taken response is refl refl refl
  outcome_turn taken response is (ends entry count is_ack was many) =
      ended entry count taken is_ack was many refl (answer_is taken response is)

  next_turn : (after : Client) → ClientNext settings judge world event d after → Turn after
  unfolding started
  next_turn after (same no_start no_take) =
      rested refl no_start (no_answer_now no_take) (no_puts event no_start no_take)
  next_turn after (starts phase q checked) = opened phase q checked refl
  next_turn after (responds taken response h out) = outcome_turn taken response h out

pub turn : (settings : Settings) (judge : Formats) (world : World) (event : Event)
    → Enabled settings judge world event → (d : ℕ)
    → Turn settings judge world event d ((apply settings world event).clients d)
turn settings judge world event checked d =
    next_turn settings judge world event d _ (client_next settings judge world event checked d)
