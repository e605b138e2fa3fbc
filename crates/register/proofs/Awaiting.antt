-- Awaiting: for a working client that stores, each honest server has its WRITE_INFO still to serve, or its
-- acknowledgement is on its way, or is counted.
--
-- Why: the write puts WRITE_INFO on every channel to an honest server, where nothing is lost; the server
-- that serves it sends WRITE_ACK with its counter, which a working client gets; and the client counts it
-- when it takes it, for it is storing with that counter.
-- In order: on the channels; at the client; along a run.
-- Assumes nothing.
use Rattle.register.proofs.Vocabulary.{Member, Settings, is_client, is_honest, Server, server_sends}
use Rattle.register.proofs.Vocabulary.{sent_to, Client, entry_of, started, with_ack, Response, World}
use Rattle.register.proofs.Vocabulary.{Event, takes, stops, response_of, next_stopped, apply, Formats}
use Rattle.register.proofs.Vocabulary.{world_at}
use Rattle.basics.proofs.Prelude.{◌≡◌, refl, sym, ◌∙◌, subst, true, false, cond, ◌⊎◌, inl, inr, ◌≢◌, List, []}
use Rattle.basics.proofs.Prelude.{◌∷◌, ℕ, zero, suc, ◌^◌, ◌≤◌, ◌<◌, arith, eqb, eqb-true, eqb-false, eq-eqb}
use Rattle.basics.proofs.Cases.{by_test, by_either, true_or_false, clash}
use Rattle.basics.proofs.Members.{member_right}
use Rattle.basics.proofs.Update.{update_same, update_other}
use Rattle.message.proofs.Pairs.{counter_of_lem}
use Rattle.register.proofs.Vocabulary.{Entry, Message, WriteInfo, Fwd, WriteAck, Pair, WriteCounter}
use Rattle.register.proofs.Vocabulary.{counter, pair_of, Phase, Idle, Reading, ReadingForWrite, Storing}
use Rattle.register.proofs.Bounds.{client_small}
use Rattle.register.proofs.Enabled.{Enabled, Starts}
use Rattle.register.proofs.Run.{Run, world_in, event_in, enabled_at}
use Rattle.register.proofs.Sends.{direct, sent_direct}
use Rattle.register.proofs.Outcomes.{Outcome, dropped, waits, shows, spends, sends, acks, ends}
use Rattle.register.proofs.Outcomes.{grown_phase, next_counter}
use Rattle.register.proofs.Frames.{Takes, ClientNext, same, starts, responds, client_next}
use Rattle.register.proofs.Frames.{stopped_next}
use Rattle.register.proofs.Channels.{Puts, up_stays, up_new, down_stays, down_new}
use Rattle.register.proofs.Entries.{entries}
use Rattle.register.proofs.Live.{not_reading}

-- WRITE_INFO with the counter is on its way to server k, or WRITE_ACK with it on its way back
abbrev pub OnTheWay : World → ℕ → ℕ → WriteCounter → Type 0
OnTheWay world d k count =
    ((pair : Pair) × Member (WriteInfo pair) (world.up d k) × (counter pair ≡ count))
    ⊎ Member (WriteAck count) (world.down d k)

-- or the acknowledgement is counted by the client `self`
abbrev pub Awaits : World → ℕ → ℕ → WriteCounter → Client → Type 0
Awaits world d k count self = (self.acks k ≡ true) ⊎ OnTheWay world d k count

-- ---- on the channels

ack_sent : (server : Server) (d : ℕ) (pair : Pair) → 1 ≤ d → d ≤ 6
    → Member (WriteAck (counter pair)) (sent_to d (server_sends server d (WriteInfo pair)))
unfolding direct
ack_sent server d pair low high =
    rw (sent_direct server d (WriteInfo pair) d low high)
    (member_right (WriteAck (counter pair)) (cond (server.readers d) (Fwd pair ∷ []) []) _
    (rw (eq-eqb d d refl) (inl refl)))

-- a client that works after an event worked before, and did not stop
works_before : (settings : Settings) (judge : Formats) (world : World) (event : Event) (d : ℕ)
    → (apply settings world event).stopped d ≡ false → (world.stopped d ≡ false) × (event ≡ stops d → ⊥)
unfolding apply next_stopped
works_before settings judge world event d h = (
  by_either (stopped_next settings judge world event d) (λ q. sym q ∙ h)
      (λ q. absurd (true_or_false _ q.1 h)),
  λ q. true_or_false true refl (rw (q, update_same) at h),
)

module _ (settings : Settings) (judge : Formats) (world : World) (event : Event)
    (checked : Enabled settings judge world event) (d k : ℕ)
    (range : (1 ≤ d) × (d ≤ 6)) (honest : is_honest settings k ≡ true)
    (small : (entry : Entry) → (world.clients d).phase ≡ ReadingForWrite entry → entry.0 < 2 ^ 40)
    (old : world.stopped d ≡ false → (entry : Entry) (count : WriteCounter)
    → (world.clients d).phase ≡ Storing entry count → Awaits world d k count (world.clients d)) where
  -- what is on its way stays so, unless the client takes the acknowledgement or stops
  awaits_next : (count : WriteCounter) (self : Client) → world.stopped d ≡ false → (event ≡ stops d → ⊥)
      → ((rest : List Message) → event ≡ takes d k (WriteAck count) rest → ⊥) → Awaits world d k count self
      → Awaits (apply settings world event) d k count self
  awaits_next count self works no_stop no_take (inl a) = inl a
  awaits_next count self works no_stop no_take (inr (inl (pair, member, is))) =
      by_either (up_stays settings judge world event checked d k (WriteInfo pair) member)
      (λ a. inr (inl (pair, a, is))) (λ a. inr (inr
      (rw a.1 (down_new settings judge world k d (WriteInfo pair) a.0 d (WriteAck count) works
      (rw (← is) (ack_sent (world.servers k) d pair range.0 range.1))))))
  awaits_next count self works no_stop no_take (inr (inr member)) =
      by_either (down_stays settings judge world event checked d k (WriteAck count) member) (λ a. inr (inr a))
      (λ a. by_either a (λ b. absurd (no_take b.0 b.1)) (λ b. absurd (no_stop b)))

  -- ---- at the client

  outcome_awaits : (taken : Takes settings judge world event d) (response : Response)
      → response ≡ response_of settings world d taken.server taken.message
      → Outcome settings d (world.clients d) taken.server taken.message response
      → (entry : Entry) (count : WriteCounter) → response.client.phase ≡ Storing entry count
      → Awaits (apply settings world event) d k count response.client
  unfolding with_ack
  outcome_awaits taken response h (dropped un) entry count storing =
      let q = taken.event in
      let works = taken.enabled.works in
      awaits_next count (world.clients d) works (λ g. clash (cc))
      (λ rest g. un.no_ack entry count storing (let is : taken.message ≡ WriteAck count = cc in is))
      (old works entry count storing)
  outcome_awaits taken response h (waits grown grows reading _) entry count storing =
      absurd (not_reading _ reading (inr (entry, count, sym (grown_phase grows) ∙ storing)))
  outcome_awaits taken response h (shows grown pair grows _ _) entry count storing = clash (cc)
  outcome_awaits taken response h (spends grown pair other grows _ _ _) entry count storing = clash (cc)
  outcome_awaits taken response h (sends grown pair other grows reading _ _) entry count storing =
      let z : next_counter pair ≡ count = cc in
      let high = range.1 in
      let is = counter_of_lem (next_counter pair) d other (omega arith) (small other reading) in
      inr
      (inl (pair_of (next_counter pair) d other, up_new settings judge world event d k _ honest puts, is ∙ z))
    where
      puts : Puts settings judge world event d (WriteInfo (pair_of (next_counter pair) d other))
      puts =
          let q = taken.event in
          rw q (
            refl,
            subst (λ (x : Response). Member (WriteInfo (pair_of (next_counter pair) d other)) x.sends) h
                (inr (inl refl)),
          )
  outcome_awaits taken response h (acks other other' i was _) entry count storing =
      let q = taken.event in
      let works = taken.enabled.works in
      by_test (eqb taken.server k) (λ ek. inl (rw (eqb-true _ k ek, update_same) refl))
      (λ ek. let ne : taken.server ≢ k = eqb-false _ k ek in
      rw (update_other (world.clients d).acks taken.server k true ne)
      (awaits_next count (world.clients d) works (λ g. clash (cc))
      (λ rest g. ne (let is : taken.server ≡ k = cc in is)) (old works entry count storing)))
  outcome_awaits taken response h (ends other other' _ _ _) entry count storing = clash (cc)

  no_start : (phase : Phase) → Starts judge phase → (entry : Entry) (count : WriteCounter)
      → phase ≡ Storing entry count → ⊥
  no_start Idle start entry count q = clash (cc)
  no_start Reading start entry count q = clash (cc)
  no_start (ReadingForWrite other) start entry count q = clash (cc)
  no_start (Storing other other') start entry count q = start

  client_awaits : (after : Client) → ClientNext settings judge world event d after
      → (apply settings world event).stopped d ≡ false → (entry : Entry) (count : WriteCounter)
      → after.phase ≡ Storing entry count → Awaits (apply settings world event) d k count after
  unfolding started
  client_awaits after (same a b) works entry count storing =
      let worked = works_before settings judge world event d works in
      awaits_next count (world.clients d) worked.0 worked.1
      (λ rest g. true_or_false (eqb d d) (eq-eqb d d refl) (rw g at b)) (old worked.0 entry count storing)
  client_awaits after (starts phase' q checked) works entry count storing =
      absurd (no_start phase' checked.phase entry count storing)
  client_awaits after (responds taken response h out) works entry count storing =
      outcome_awaits taken response h out entry count storing

-- ---- along a run

module _ (run : Run) where
  pub awaiting : (n d k : ℕ) → is_client run.settings d ≡ true → is_honest run.settings k ≡ true
      → (world_in run n).stopped d ≡ false → (entry : Entry) (count : WriteCounter)
      → ((world_in run n).clients d).phase ≡ Storing entry count
      → Awaits (world_in run n) d k count ((world_in run n).clients d)
  unfolding world_at entry_of
  awaiting zero d k client honest works entry count storing = clash (cc)
  awaiting (suc n) d k client honest works entry count storing =
      client_awaits run.settings run.judge (world_in run n) (event_in run n) (enabled_at run n) d k
      (client_small run.settings run.accepted d client) honest
      (λ entry' reading. rw reading at (entries run n d)) (awaiting n d k client honest) _
      (client_next run.settings run.judge (world_in run n) (event_in run n)
      (enabled_at run n) d) works entry count storing
