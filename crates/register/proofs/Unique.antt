-- Unique: a write sends once, and no two writes have one timestamp.
--
-- Why: two writes of one client do not overlap, so the later has the higher timestamp (`Ordered`); two
-- clients have different numbers, which are part of the timestamp. And every WRITE_INFO that is put belongs
-- to the write that its client has open (`Open`, `sender`).
-- Assumes nothing.
use Rattle.basics.proofs.Prelude.{◌≡◌, sym, subst, inr, ℕ, ◌<◌, arith}
use Rattle.basics.proofs.Cases.{by_either, clash}
use Rattle.basics.proofs.Ranges.{at_last, neither_below}
use Rattle.message.proofs.Pairs.{client_of_stamp}
use Rattle.register.proofs.Vocabulary.{Pair, stamp, Wrote, Spent, Ok}
use Rattle.register.proofs.Run.{Run}
use Rattle.register.proofs.ReadStatus.{begins_idle, WritesAt}
use Rattle.register.proofs.WriteStatus.{in_phase_lem, write_status}
use Rattle.register.proofs.Open.{open_write, answering}
use Rattle.register.proofs.PutCases.{PutsAt, sends_at, phase_after, puts_same}
use Rattle.register.proofs.Ordered.{Sending, sent_facts, ordered}

-- two writes of one client: the first has ended when the second begins
own_order : {run : Run} {begin₁ begin₂ d j₁ j₂ : ℕ} {pair₁ pair₂ : Pair} → Sending run begin₁ d j₁ pair₁
    → Sending run begin₂ d j₂ pair₂ → begin₁ < begin₂ → stamp pair₁ < stamp pair₂
own_order {run} {begin₁} {begin₂} {d} sending₁ sending₂ lt =
    by_either (write_status run begin₁ d sending₁.entry sending₁.begins begin₂ lt)
    (λ status. let idle = begins_idle run begin₂ d _ sending₂.begins in
    in_phase_lem run begin₁ d sending₁.entry begin₂ status (λ h. clash (cc)) (λ c h. clash (cc)))
    (λ status. ordered sending₁ status.how.ends sending₂ status.before)

pub unique : {run : Run} {begin₁ d₁ j₁ begin₂ d₂ j₂ : ℕ} {pair₁ pair₂ : Pair} → Sending run begin₁ d₁ j₁ pair₁
    → Sending run begin₂ d₂ j₂ pair₂ → stamp pair₁ ≡ stamp pair₂ → begin₁ ≡ begin₂
unique {run} {begin₁} {d₁} {j₁} {begin₂} {d₂} {j₂} {pair₁} {pair₂} sending₁ sending₂ e =
    let own₁ = (sent_facts sending₁).client in
    let own₂ = (sent_facts sending₂).client in
    let is₁ = client_of_stamp pair₁ in
    let is₂ = client_of_stamp pair₂ in
    let same : d₂ ≡ d₁ = omega arith in
    let sending₃ : Sending run begin₂ d₁ j₂ pair₂ =
    subst (λ (d : ℕ). Sending run begin₂ d j₂ pair₂) same sending₂ in
    neither_below begin₁ begin₂ (λ less. let x = own_order sending₁ sending₃ less in omega arith)
    (λ less. let x = own_order sending₃ sending₁ less in omega arith)

-- ---- a write sends once

sends_later : {run : Run} {begin d j j' : ℕ} {pair pair' : Pair} → Sending run begin d j pair
    → Sending run begin d j' pair' → j < j' → ⊥
sends_later {run} {begin} {d} {j} {j'} {pair} {pair'} sending sending' lt =
    let was = (sends_at run j' d pair' sending'.puts).put.phase in
    by_either (write_status run begin d sending'.entry sending'.begins j' sending'.after)
    (λ status. by_either status.state (λ state. state.none j sending.after lt pair sending.puts)
    (λ state. let now = state.phase in clash (cc)))
    (λ status. sending'.unended status.at status.after (let x = status.before in omega arith)
    status.how.ends.writes)

pub record Same (d j : ℕ) (sent : Pair) (d' j' : ℕ) (sent' : Pair) : Type 0 where
  pub client : d ≡ d'
  pub step : j ≡ j'
  pub pair : sent ≡ sent'

pub sends_once : {run : Run} {begin d j d' j' : ℕ} {pair pair' : Pair} → Sending run begin d j pair
    → Sending run begin d' j' pair' → Same d j pair d' j' pair'
sends_once {run} {begin} {d} {j} {d'} {j'} {pair} {pair'} sending sending' =
    let begun = sending.begins in
    let begun' = sending'.begins in
    let client : d' ≡ d = cc in
    let mine : Sending run begin d j' pair' =
    subst (λ (z : ℕ). Sending run begin z j' pair') client sending' in
    let step : j ≡ j' = neither_below j j' (sends_later sending mine) (sends_later mine sending) in
    record {
      client = sym client;
      step = step;
      pair = puts_same run j d pair pair' sending.puts
          (subst (λ (z : ℕ). PutsAt run z d pair') (sym step) mine.puts);
    }

-- ---- a WRITE_INFO belongs to the write that its client has open

module _ (run : Run) where
  -- a step that sends ends nothing
  sends_open : (n d : ℕ) (pair : Pair) → PutsAt run n d pair → WritesAt run n d → ⊥
  sends_open n d pair puts writes =
      let sends = sends_at run n d pair puts in
      let was = sends.put.phase in
      let now = phase_after run n d pair sends in
      by_either writes.answer
      (λ a. let x = (answering run n d (Ok (Wrote a.0)) writes.takes a.1).2 in clash (cc))
      (λ a. let x = (answering run n d (Ok Spent) writes.takes a).2 in clash (cc))

  pub record Sender (n d : ℕ) (pair : Pair) : Type 0 where
    pub begin : ℕ
    pub sending : Sending run begin d n pair

  pub sender : (n d : ℕ) (pair : Pair) → PutsAt run n d pair → Sender n d pair
  sender n d pair puts =
      let sends = sends_at run n d pair puts in
      let status = open_write run n d sends.put.entry sends.put.phase in
      record {
        begin = status.at;
        sending = record {
          entry = sends.put.entry;
          begins = status.begins;
          after = status.before;
          puts = puts;
          unended = λ i a b writes. at_last i n (omega arith) (λ e. sends_open n d pair puts (rw e at writes))
              (λ less. status.silent i a less (inr writes));
        };
      }
