-- What a write sends is its own, and the history shows it: the pair has the number of the write's client and
-- the entry of its W; WROTE shows that pair, so a write that ended so has sent; a write that ended as SPENT
-- has not; and each WRITE_INFO on a channel is some write's own.
--
-- Why: while a write is open its client is in its phase, with its entry (`WriteStatus`). In that phase it
-- sends, and WROTE answers what it then stores. A message on a channel was put there, by the write that was
-- open (`Unique`).
-- Assumes nothing.
use Rattle.register.proofs.Vocabulary.{Member, entry_of, world_at, HasSent, Ok}
use Rattle.basics.proofs.Prelude.{◌≡◌, ap, ◌∙◌, subst, length, ℕ, zero, suc, ◌^◌, ◌<◌, arith, ltb, ltb-true}
use Rattle.basics.proofs.Prelude.{ltb-false}
use Rattle.basics.proofs.Cases.{by_test, by_either, clash}
use Rattle.message.proofs.Pairs.{entry_of_lem}
use Rattle.register.specs.History.{last_world}
use Rattle.register.proofs.Vocabulary.{WriteInfo, Pair, client, entry, pair_of, Wrote, Spent}
use Rattle.register.proofs.Run.{Run, world_in, event_in, answer_in, enabled_at}
use Rattle.register.proofs.Outcomes.{next_counter}
use Rattle.register.proofs.Channels.{up_cases}
use Rattle.register.proofs.WriteStatus.{in_phase_lem, write_status}
use Rattle.register.proofs.Open.{answering}
use Rattle.register.proofs.PutCases.{PutsAt, sent_pair}
use Rattle.register.proofs.Entries.{entries, sent_stamp}
use Rattle.register.proofs.Ordered.{Sending}
use Rattle.register.proofs.Unique.{sender}
use Rattle.register.proofs.Translation.{WriteEndsIn, SendsIn, write_begins, writes_in, writes_out}
use Rattle.register.proofs.Translation.{sends_in, sends_out}

module _ (run : Run) where
  -- ---- client and entry

  own_entry : (begin d j : ℕ) (pair : Pair) (sending : Sending run begin d j pair)
      → entry pair ≡ sending.entry
  unfolding entry_of
  own_entry begin d j pair sending =
      let facts = sent_stamp run j d pair sending.puts in
      let was = facts.send.put.phase in
      let fits : facts.send.put.entry.0 < 2 ^ 40 = rw was at (entries run j d) in
      let is = sent_pair run j d pair facts.send in
      let same : facts.send.put.entry ≡ sending.entry =
      by_either (write_status run begin d sending.entry sending.begins j sending.after)
      (λ status. in_phase_lem run begin d sending.entry j status (λ h. cc) (λ c h. clash (cc)))
      (λ status. let before = status.before in
      absurd (sending.unended status.at status.after (omega arith) status.how.ends.writes)) in
      ap entry is ∙ entry_of_lem (next_counter facts.send.put.pair) d facts.send.put.entry
      facts.small fits ∙ same

  pub own_pair : (begin d j : ℕ) (pair : Pair) (sends : SendsIn run begin d j pair)
      → (client pair ≡ d) × (entry pair ≡ sends.begins.entry)
  own_pair begin d j pair sends =
      let sending = sends_in run sends in
      let begun = sending.begins in
      let begun' = write_begins run sends.begins in
      let same : sending.entry ≡ sends.begins.entry = cc in
      ((sent_stamp run j d pair sending.puts).client, own_entry begin d j pair sending ∙ same)

  -- ---- WROTE and SPENT

  module _ (begin d j : ℕ) (ends : WriteEndsIn run begin d j) where
    pub wrote_sent : (pair : Pair) → answer_in run j ≡ Ok (Wrote pair)
        → (i : ℕ) × (i < j) × SendsIn run begin d i pair
    wrote_sent pair answer =
        let answered = answering run j d (Ok (Wrote pair)) (writes_in run ends.ends).takes answer in
        let was = answered.2 in
        let is = answered.3 in
        let inside = ends.ends.in_list in
        let begun = write_begins run ends.begins in
        by_either (write_status run begin d ends.begins.entry begun j ends.later)
        (λ status. by_either status.state (λ state. let now = state.phase in clash (cc))
        (λ state. let now = state.phase in
        let before = state.before in
        let same : pair_of (next_counter state.pair) d ends.begins.entry ≡ pair = cc in (
          state.at,
          state.before,
          sends_out run (omega arith) (record {
            entry = ends.begins.entry;
            begins = begun;
            after = state.after;
            puts = subst (λ (q : Pair). PutsAt run state.at d q) same state.puts;
            unended = λ i lo hi wr. status.silent i lo (omega arith) wr;
          }),
        )))
        (λ status. let before = status.before in
        absurd (ends.next status.at status.after before
        (writes_out run (omega arith) status.how.ends.writes)))

    pub spent_unsent : answer_in run j ≡ Ok Spent → HasSent run.settings run.judge run.steps begin → ⊥
    spent_unsent answer sent =
        let was = (answering run j d (Ok Spent) (writes_in run ends.ends).takes answer).1 in
        let inside = ends.ends.in_list in
        let one = sent.sends.begins.step in
        let two = ends.begins.step in
        let same : sent.client ≡ d = cc in
        let mine : SendsIn run begin d sent.at sent.pair =
        subst (λ (d' : ℕ). SendsIn run begin d' sent.at sent.pair) same sent.sends in
        let sending = sends_in run mine in
        by_test (ltb sent.at j) (λ t. by_either
        (write_status run begin d ends.begins.entry (write_begins run ends.begins) j ends.later)
        (λ status. by_either status.state
        (λ state. state.none sent.at sending.after (ltb-true sent.at j t) sent.pair
        sending.puts) (λ state. let now = state.phase in clash (cc)))
        (λ status. let before = status.before in
        ends.next status.at status.after before
        (writes_out run (omega arith) status.how.ends.writes)))
        (λ t. mine.unended j ends.later (ltb-false sent.at j t) ends.ends)

  -- ---- what is on a channel

  put_before : (n d k : ℕ) (pair : Pair) → Member (WriteInfo pair) ((world_in run n).up d k)
      → (j : ℕ) × (j < n) × PutsAt run j d pair
  unfolding world_at
  put_before zero d k pair member = absurd member
  put_before (suc n) d k pair member =
      by_either
      (up_cases run.settings run.judge (world_in run n) (event_in run n) (enabled_at run n) d k
      (WriteInfo pair) member) (λ a. let earlier = put_before n d k pair a in
      let lt = earlier.1 in (earlier.0, omega arith, earlier.2)) (λ a. (n, omega arith, a))

  pub on_the_way : (d k : ℕ) (pair : Pair)
      → Member (WriteInfo pair) ((last_world run.settings run.judge run.steps).up d k)
      → (begin j : ℕ) × SendsIn run begin d j pair
  on_the_way d k pair member =
      let put = put_before (length run.steps) d k pair member in
      let found = sender run put.0 d pair put.2 in
      (found.begin, put.0, sends_out run put.1 found.sending)
