-- Ordered: a write that ended before another began has the lower timestamp (001, lemma 5.4).
--
-- Why: when the first ended its timestamp was stored, and still is when the second begins; the second chooses
-- nothing older (`NotOld`) and sends the next counter, so its timestamp is higher, whatever the clients'
-- numbers.
-- Assumes nothing.
use Rattle.basics.proofs.Prelude.{◌≡◌, ap, ◌∙◌, ◌≢◌, ℕ, suc, ◌+◌, ◌*◌, ◌^◌, ◌≤◌, ◌<◌, arith, leb, leb-true}
use Rattle.basics.proofs.Prelude.{leb-false}
use Rattle.basics.proofs.Cases.{by_test, by_either}
use Rattle.basics.proofs.Ranges.{at_last}
use Rattle.message.proofs.Pairs.{stamp_is, stamp_of_lem, client_fits, initial_stamp}
use Rattle.register.proofs.Vocabulary.{entry_of, begins}
use Rattle.register.proofs.Vocabulary.{Entry, Pair, stamp, counter, client, pair_of, initial}
use Rattle.register.proofs.Vocabulary.{ReadingForWrite}
use Rattle.register.proofs.Run.{Run, world_in, event_in}
use Rattle.register.proofs.Outcomes.{next_counter}
use Rattle.register.proofs.Since.{since}
use Rattle.register.proofs.ReadStatus.{WritesAt, DecidesAt}
use Rattle.register.proofs.WriteStatus.{SentOnce, Ending, write_status}
use Rattle.register.proofs.PutCases.{PutsAt, puts_same}
use Rattle.register.proofs.Entries.{entries, sent_stamp}
use Rattle.register.proofs.NotOld.{Stored, stored_stays, not_old_lem, stored_end}

module _ (run : Run) where
  -- the write of client d begun at `begin` sends the pair at step j, before it has ended
  pub record Sending (begin d j : ℕ) (pair : Pair) : Type 0 where
    pub entry : Entry
    pub begins : event_in run begin ≡ begins d (ReadingForWrite entry)
    pub after : begin < j
    pub puts : PutsAt run j d pair
    pub unended : (i : ℕ) → begin < i → i ≤ j → WritesAt run i d → ⊥

  -- when it sends it decides, and its timestamp is that of the counter after the chosen one
  pub record Sent (begin d j : ℕ) (pair : Pair) : Type 0 where
    pub begun : since run j d ≡ begin
    pub chosen : Pair
    pub decides : DecidesAt run j d chosen
    pub small : d < 2 ^ 4
    pub client : client pair ≡ d
    pub stamp : stamp pair ≡ ((counter chosen).0 + 1) * 16 + d

module _ {run : Run} {begin d j : ℕ} {pair : Pair} (sending : Sending run begin d j pair) where
  pub sent_facts : Sent run begin d j pair
  sent_facts =
      let facts = sent_stamp run j d pair sending.puts in
      let send = facts.send in
      by_either (write_status run begin d sending.entry sending.begins j sending.after)
      (λ status. record {
        begun = status.begun;
        chosen = send.put.pair;
        decides =
            record {
              by = send.by;
              grown = send.put.grown;
              grows = send.put.grows;
              chosen = send.put.chosen;
            };
        small = facts.small;
        client = facts.client;
        stamp = facts.stamp;
      })
      (λ status. absurd (sending.unended status.at status.after (let x = status.before in omega arith)
      status.how.ends.writes))

  -- what a write sends is not the initial pair
  pub not_initial : pair ≢ initial
  not_initial e = let high = sent_facts.stamp in let z : stamp pair ≡ 0 = rw e initial_stamp in omega arith

  -- what was stored when the write began is older
  pub newer : (time : ℕ) → Stored run.settings (world_in run begin) time → time < stamp pair
  newer time stored =
      let facts = sent_facts in
      let low = not_old_lem run j d facts.chosen time facts.decides (rw facts.begun stored) in
      let is = stamp_is facts.chosen in
      let fits = client_fits facts.chosen in
      let high = facts.stamp in
      omega arith

  -- the pair of a write that ended at step i by storing
  ended_stamp : (i : ℕ) → j < i → (once : SentOnce run begin d sending.entry i)
      → stamp pair ≡ ((counter once.pair).0 + 1) * 16 + d
  unfolding entry_of
  ended_stamp i ji once =
      let at = once.only j sending.after ji pair sending.puts in
      let same : pair ≡ pair_of (next_counter once.pair) d sending.entry =
      puts_same run once.at d pair _ (rw at at sending.puts) once.puts in
      let fits : sending.entry.0 < 2 ^ 40 = rw once.phase at (entries run i d) in
      ap stamp same ∙ stamp_of_lem (next_counter once.pair) d sending.entry sent_facts.small fits

  -- when the write ends its timestamp is stored
  pub stored_when_ended : {i : ℕ} → Ending run begin d i → Stored run.settings (world_in run i) (stamp pair)
  stored_when_ended {i} ending =
      by_either (write_status run begin d sending.entry sending.begins (suc i)
      (let x = ending.after in omega arith))
      (λ status. absurd (status.silent i ending.after (omega arith) ending.writes))
      (λ status. at_last status.at i status.before (λ z. let ji : j < status.at =
      by_test (leb status.at j)
      (λ t. absurd (sending.unended status.at status.after (leb-true _ _ t)
      status.how.ends.writes)) (λ t. leb-false _ _ t) in
      by_either status.how.state
      (λ state. absurd (state.none j sending.after ji pair sending.puts))
      (λ state. rw (← z, ended_stamp status.at ji state.0)
      (stored_end run d sending.entry (next_counter state.0.pair) status.at state.1)))
      (λ less. absurd (ending.first status.at status.after less status.how.ends.writes)))

-- lemma 5.4
pub ordered : {run : Run} {begin₁ d₁ j₁ i begin₂ d₂ j₂ : ℕ} {pair₁ pair₂ : Pair}
    → Sending run begin₁ d₁ j₁ pair₁ → Ending run begin₁ d₁ i → Sending run begin₂ d₂ j₂ pair₂ → i < begin₂
    → stamp pair₁ < stamp pair₂
ordered {run} {i = i} {begin₂ = begin₂} {pair₁ = pair₁} sending₁ ending sending₂ lt =
    newer sending₂ (stamp pair₁)
    (stored_stays run i begin₂ (stamp pair₁) (omega arith) (stored_when_ended sending₁ ending))
