-- What a client puts on its channels: GET_INFO where it starts, DONE, or the WRITE_INFO of its write.
--
-- A WRITE_INFO carries the client's own number and the counter that follows the chosen one, so an event puts
-- at most one, and its pair has the client's number and the timestamp that these two make.
-- Assumes nothing.
use Rattle.basics.proofs.Prelude.{◌≡◌, refl, sym, ap, ◌∙◌, subst, true, ℕ, suc, eq-eqb}
use Rattle.basics.proofs.Cases.{by_either}
use Rattle.basics.proofs.Update.{update_same}
use Rattle.register.proofs.Vocabulary.{Settings, Client, next_read, World, Event, refuses, begins}
use Rattle.register.proofs.Vocabulary.{serves, takes, stops, lies, response_of, next_clients, apply}
use Rattle.register.proofs.Vocabulary.{Formats, world_at}
use Rattle.register.proofs.Vocabulary.{Message, GetInfo, Info, Done, WriteInfo, Fwd, WriteAck, Pair}
use Rattle.register.proofs.Vocabulary.{pair_of, Storing}
use Rattle.register.proofs.Enabled.{Enabled}
use Rattle.register.proofs.Run.{Run, world_in, event_in, enabled_at}
use Rattle.register.proofs.Outcomes.{outcome, next_counter}
use Rattle.register.proofs.Frames.{starts_at, Takes}
use Rattle.register.proofs.Channels.{Puts}
use Rattle.register.proofs.ClientFacts.{PutsWrite, outcome_sends}

module _ (settings : Settings) (judge : Formats) (world : World) (event : Event) (d : ℕ) where
  -- client d takes a message, chooses, and sends its write's pair
  pub record SendsWrite (pair : Pair) : Type 0 where
    pub by : Takes settings judge world event d
    pub put : PutsWrite settings d (world.clients d) by.server by.message
        (response_of settings world d by.server by.message) (WriteInfo pair)

  -- why client d puts a message on its channels
  abbrev pub PutCase : Message → Type 0
  PutCase (GetInfo tag) = (starts_at event d ≡ true) × (tag ≡ next_read (world.clients d))
  PutCase (Info tag pair) = ⊥
  PutCase Done = Unit {0}
  PutCase (WriteInfo pair) = SendsWrite pair
  PutCase (Fwd pair) = ⊥
  PutCase (WriteAck count) = ⊥

module _ (settings : Settings) (judge : Formats) (world : World) where
  pub put_case : (event : Event) → Enabled settings judge world event → (d : ℕ) (message : Message)
      → Puts settings judge world event d message → PutCase settings judge world event d message
  put_case (refuses refusal) checked d message puts = absurd puts
  put_case (begins d' phase) checked d message puts = rw (puts.1, puts.0) (eq-eqb d d refl, refl)
  put_case (serves k d' message' rest) checked d message puts = absurd puts
  put_case (takes d' k message' rest) checked d message puts =
      by_either (outcome_sends settings d' (world.clients d') k message' _
      (outcome settings d' (world.clients d') k message') message puts.1) (λ q. rw q tt)
      (λ q. let i = q.is in
      rw (← puts.0, i)
      (record {
        by = record { server = k; message = message'; rest = rest; event = refl; enabled = checked };
        put = subst (PutsWrite settings d' (world.clients d') k message'
            (response_of settings world d' k message')) i q;
      }))
  put_case (stops d') checked d message puts = absurd puts
  put_case (lies k d' message') checked d message puts = absurd puts

-- ---- in a run

module _ (run : Run) where
  -- client d puts WRITE_INFO with the pair on its channels at step j
  abbrev pub PutsAt : ℕ → ℕ → Pair → Type 0
  PutsAt j d pair = Puts run.settings run.judge (world_in run j) (event_in run j) d (WriteInfo pair)

  abbrev pub SendsAt : ℕ → ℕ → Pair → Type 0
  SendsAt j d pair = SendsWrite run.settings run.judge (world_in run j) (event_in run j) d pair

  pub sends_at : (j d : ℕ) (pair : Pair) → PutsAt j d pair → SendsAt j d pair
  sends_at j d pair puts =
      put_case run.settings run.judge (world_in run j) (event_in run j) (enabled_at run j) d
      (WriteInfo pair) puts

  -- the pair that a write sends is made of its choice
  pub sent_pair : (j d : ℕ) (pair : Pair) (sends : SendsAt j d pair)
      → pair ≡ pair_of (next_counter sends.put.pair) d sends.put.entry
  sent_pair j d pair sends = let i = sends.put.is in cc

  -- the phase after it
  pub phase_after : (j d : ℕ) (pair : Pair) (sends : SendsAt j d pair)
      → ((world_in run (suc j)).clients d).phase ≡ Storing sends.put.entry (next_counter sends.put.pair)
  unfolding world_at apply next_clients
  phase_after j d pair sends =
      let q = sends.by.event in rw (q, update_same) (ap (λ (x : Client). x.phase) sends.put.after)

  -- it tells which pair was sent, so a step puts at most one WRITE_INFO
  pub puts_same : (j d : ℕ) (pair other : Pair) → PutsAt j d pair → PutsAt j d other → pair ≡ other
  puts_same j d pair other puts puts' =
      let sends = sends_at j d pair puts in
      let sends' = sends_at j d other puts' in
      let one = phase_after j d pair sends in
      let two = phase_after j d other sends' in
      let entry : sends.put.entry ≡ sends'.put.entry = cc in
      let count : next_counter sends.put.pair ≡ next_counter sends'.put.pair = cc in
      sent_pair j d pair sends ∙ (λ i. pair_of (count i) d (entry i)) ∙ sym (sent_pair j d other sends')
