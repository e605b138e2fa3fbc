-- The writes that sent before step n, as a list, with their timestamps.
--
-- Each step puts at most one WRITE_INFO, and whether it does can be decided (`put`). Going through the steps
-- gives the list of the writes that sent, each once since a write sends once (`apart`); the timestamp of each
-- (`stamp_at`); and a number above all these timestamps (`below_top`), which the keys of a row use.
-- Assumes nothing.
use Rattle.register.proofs.Vocabulary.{Member, Settings, World, Event, refuses, begins, serves, takes}
use Rattle.register.proofs.Vocabulary.{stops, lies, response_of, Formats}
use Rattle.basics.proofs.Prelude.{◌≡◌, refl, sym, ap, subst, cond, ◌⊎◌, inl, inr, List, [], ◌∷◌, ℕ, zero, suc}
use Rattle.basics.proofs.Prelude.{◌+◌, ◌≤◌, ◌<◌, le_refl, not-suc-le-zero, arith, eqb, eqb-true, eqb-false}
use Rattle.basics.proofs.Cases.{by_test, by_either, clash}
use Rattle.basics.proofs.Ranges.{at_last}
use Rattle.basics.proofs.Sorting.{Distinct}
use Rattle.register.proofs.Vocabulary.{Message, GetInfo, Info, Done, WriteInfo, Fwd, WriteAck, Pair}
use Rattle.register.proofs.Vocabulary.{stamp}
use Rattle.register.proofs.Run.{Run, world_in, event_in}
use Rattle.register.proofs.Channels.{Puts}
use Rattle.register.proofs.PutCases.{PutsAt, sends_at}
use Rattle.register.proofs.Since.{since}
use Rattle.register.proofs.Ordered.{Sending, sent_facts}
use Rattle.register.proofs.Unique.{sends_once, sender}

-- ---- whether an event puts a WRITE_INFO

-- the WRITE_INFO of a list of messages, or that there is none
find : (channel : List Message)
    → ((pair : Pair) × Member (WriteInfo pair) channel) ⊎ ((pair : Pair) → Member (WriteInfo pair) channel
    → ⊥)
find [] = inr (λ p h. h)
find (message ∷ rest) = by_either (find rest) (λ f. inl (f.0, inr f.1)) (λ never. front message never)
  where
    front : (message : Message) → ((pair : Pair) → Member (WriteInfo pair) rest → ⊥)
        → ((pair : Pair) × Member (WriteInfo pair) (message ∷ rest))
        ⊎ ((pair : Pair) → Member (WriteInfo pair) (message ∷ rest) → ⊥)
    front (WriteInfo other) never = inl (other, inl refl)
    front (GetInfo tag) never = inr (λ p h. by_either h (λ q. clash (cc)) (never p))
    front (Info tag other) never = inr (λ p h. by_either h (λ q. clash (cc)) (never p))
    front Done never = inr (λ p h. by_either h (λ q. clash (cc)) (never p))
    front (Fwd other) never = inr (λ p h. by_either h (λ q. clash (cc)) (never p))
    front (WriteAck count) never = inr (λ p h. by_either h (λ q. clash (cc)) (never p))

pub data Put (settings : Settings) (judge : Formats) (world : World) (event : Event) : Type 0 where
  nothing : ((d : ℕ) (pair : Pair) → Puts settings judge world event d (WriteInfo pair) → ⊥)
      → Put settings judge world event
  puts : (d : ℕ) (pair : Pair) → Puts settings judge world event d (WriteInfo pair)
      → Put settings judge world event

pub put : (settings : Settings) (judge : Formats) (world : World) (event : Event)
    → Put settings judge world event
put settings judge world (refuses refusal) = nothing (λ d p h. h)
put settings judge world (begins d' phase) = nothing (λ d p h. clash (cc))
put settings judge world (serves k d' message rest) = nothing (λ d p h. h)
put settings judge world (takes d' k message rest) =
    by_either (find (response_of settings world d' k message).sends) (λ f. puts d' f.0 (refl, f.1))
    (λ never. nothing (λ d p h. never p h.1))
put settings judge world (stops d') = nothing (λ d p h. h)
put settings judge world (lies k d' message) = nothing (λ d p h. h)

-- ---- the writes that sent

module _ (run : Run) where
  abbrev PutAt : ℕ → Type 0
  PutAt n = Put run.settings run.judge (world_in run n) (event_in run n)

  put_at : (n : ℕ) → PutAt n
  put_at n = put run.settings run.judge (world_in run n) (event_in run n)

  pushed : (n : ℕ) → PutAt n → List ℕ → List ℕ
  pushed n (nothing _) writes = writes
  pushed n (puts d pair here) writes = since run n d ∷ writes

  stamped : (n : ℕ) → PutAt n → ℕ → ℕ → ℕ
  stamped n (nothing _) begin before = before
  stamped n (puts d pair here) begin before = cond (eqb (since run n d) begin) (stamp pair) before

  raised : (n : ℕ) → PutAt n → ℕ → ℕ
  raised n (nothing _) before = before
  raised n (puts d pair here) before = before + stamp pair

  -- the writes that sent before step n, the timestamp of the write begun at `begin`, and a number above all
  -- of them
  pub sent_writes : ℕ → List ℕ
  sent_writes zero = []
  sent_writes (suc n) = pushed n (put_at n) (sent_writes n)

  pub stamp_of : ℕ → ℕ → ℕ
  stamp_of zero begin = 0
  stamp_of (suc n) begin = stamped n (put_at n) begin (stamp_of n begin)

  pub top : ℕ → ℕ
  top zero = 1
  top (suc n) = raised n (put_at n) (top n)

  -- the write begun at `begin` sent before step n
  pub record SentBefore (n begin : ℕ) : Type 0 where
    pub client : ℕ
    pub at : ℕ
    pub before : at < n
    pub pair : Pair
    pub sending : Sending run begin client at pair

  later : (n begin : ℕ) → SentBefore n begin → SentBefore (suc n) begin
  later n begin sent =
      record {
        client = sent.client;
        at = sent.at;
        before = let x = sent.before in omega arith;
        pair = sent.pair;
        sending = sent.sending;
      }

  -- a WRITE_INFO belongs to the write that its client last began
  sends_now : (n d : ℕ) (pair : Pair) → PutsAt run n d pair → Sending run (since run n d) d n pair
  sends_now n d pair here =
      let sending = (sender run n d pair here).sending in subst (λ (begin : ℕ). Sending run begin d n pair)
      (sym (sent_facts sending).begun) sending

  -- and to no other
  one_sender : {n begin d : ℕ} {pair : Pair} → Sending run begin d n pair → (d' : ℕ) (pair' : Pair)
      → PutsAt run n d' pair' → since run n d' ≡ begin
  one_sender {n} {begin} {d} {pair} sending d' pair' here =
      let q = (sends_at run n d pair sending.puts).by.event in
      let q' = (sends_at run n d' pair' here).by.event in
      let e : d ≡ d' = cc in
      rw (← e) (sent_facts sending).begun

  send_now : {n begin d j : ℕ} {pair : Pair} → Sending run begin d j pair → j ≡ n → Sending run begin d n pair
  send_now {begin = begin} {d = d} {pair = pair} sending e =
      subst (λ (z : ℕ). Sending run begin d z pair) e sending

  pub member_sent : (n begin : ℕ) → Member begin (sent_writes n) → SentBefore n begin
  unfolding sent_writes pushed
  member_sent zero begin member = absurd member
  member_sent (suc n) begin member = go (λ q. later n begin (member_sent n begin q)) (put_at n) member
    where
      go : (Member begin (sent_writes n) → SentBefore (suc n) begin) → (what : PutAt n)
          → Member begin (pushed n what (sent_writes n)) → SentBefore (suc n) begin
      go ih (nothing _) member = ih member
      go ih (puts d pair here) member =
          by_either member
          (λ e. record {
            client = d;
            at = n;
            before = omega arith;
            pair = pair;
            sending = subst (λ (x : ℕ). Sending run x d n pair) (sym e) (sends_now n d pair here);
          })
          ih

  pub sent_member : (n : ℕ) {begin d j : ℕ} {pair : Pair} → Sending run begin d j pair → j < n
      → Member begin (sent_writes n)
  unfolding sent_writes pushed
  sent_member zero sending lt = absurd (not-suc-le-zero lt)
  sent_member (suc n) {begin} {d} {j} {pair} sending lt = go (λ q. sent_member n sending q) (put_at n)
    where
      go : (j < n → Member begin (sent_writes n)) → (what : PutAt n)
          → Member begin (pushed n what (sent_writes n))
      go ih (nothing never) = at_last j n lt (λ e. absurd (never d pair (send_now sending e).puts)) ih
      go ih (puts d' pair' here) =
          at_last j n lt (λ e. inl (sym (one_sender (send_now sending e) d' pair' here)))
          (λ less. inr (ih less))

  pub stamp_at : (n : ℕ) {begin d j : ℕ} {pair : Pair} → Sending run begin d j pair → j < n
      → stamp_of n begin ≡ stamp pair
  unfolding stamp_of stamped
  stamp_at zero sending lt = absurd (not-suc-le-zero lt)
  stamp_at (suc n) {begin} {d} {j} {pair} sending lt = go (λ q. stamp_at n sending q) (put_at n)
    where
      go : (j < n → stamp_of n begin ≡ stamp pair) → (what : PutAt n)
          → stamped n what begin (stamp_of n begin) ≡ stamp pair
      go ih (nothing never) = at_last j n lt (λ e. absurd (never d pair (send_now sending e).puts)) ih
      go ih (puts d' pair' here) =
          by_test (eqb (since run n d') begin)
          (λ q. rw q (ap stamp (sends_once
          (subst (λ (z : ℕ). Sending run z d' n pair') (eqb-true _ _ q)
          (sends_now n d' pair' here)) sending).pair)) (λ q. rw q
          (at_last j n lt (λ e. absurd (eqb-false _ _ q (one_sender (send_now sending e) d' pair' here))) ih))

  pub top_above : (n : ℕ) → 1 ≤ top n
  unfolding top raised
  top_above zero = le_refl _
  top_above (suc n) = go (top_above n) (put_at n)
    where
      go : 1 ≤ top n → (what : PutAt n) → 1 ≤ raised n what (top n)
      go ih (nothing _) = ih
      go ih (puts d pair here) = omega arith

  pub below_top : (n : ℕ) {begin d j : ℕ} {pair : Pair} → Sending run begin d j pair → j < n
      → stamp pair < top n
  unfolding top raised
  below_top zero sending lt = absurd (not-suc-le-zero lt)
  below_top (suc n) {begin} {d} {j} {pair} sending lt = go (λ q. below_top n sending q) (put_at n)
    where
      go : (j < n → stamp pair < top n) → (what : PutAt n) → stamp pair < raised n what (top n)
      go ih (nothing never) = at_last j n lt (λ e. absurd (never d pair (send_now sending e).puts)) ih
      go ih (puts d' pair' here) =
          at_last j n lt
          (λ e. let now = send_now sending e in
          let same = (sends_once now
          (subst (λ (z : ℕ). Sending run z d' n pair') (one_sender now d' pair' here)
          (sends_now n d' pair' here))).pair in
          let one = top_above n in
          rw same (omega arith))
          (λ less. let x = ih less in omega arith)

  pub apart : (n : ℕ) → Distinct (sent_writes n)
  unfolding sent_writes pushed
  apart zero = tt
  apart (suc n) = go (apart n) (put_at n)
    where
      go : Distinct (sent_writes n) → (what : PutAt n) → Distinct (pushed n what (sent_writes n))
      go ih (nothing _) = ih
      go ih (puts d pair here) = (
        (λ m. let s = member_sent n _ m in
            let x = s.before in
            let q = (sends_once (sends_now n d pair here) s.sending).step in
            omega arith),
        ih,
      )
