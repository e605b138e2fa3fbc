-- The entry of an open write fits its forty bits, so that the timestamp of the pair it sends is its counter
-- and its client.
--
-- Why: a write begins with a licence entry, which fits (`Lawful`), and keeps it.
-- Assumes nothing.
use Rattle.basics.proofs.Prelude.{◌≡◌, ap, ◌∙◌, ℕ, zero, suc, ◌+◌, ◌*◌, ◌^◌, ◌<◌, arith}
use Rattle.message.proofs.Pairs.{stamp_of_lem, client_of_lem}
use Rattle.register.proofs.Vocabulary.{entry_of, Formats, world_at}
use Rattle.register.proofs.Vocabulary.{Pair, stamp, counter, client, Phase, Idle, Reading}
use Rattle.register.proofs.Vocabulary.{ReadingForWrite, Storing}
use Rattle.register.proofs.Bounds.{client_small}
use Rattle.register.proofs.Enabled.{Starts}
use Rattle.register.proofs.Lawful.{Lawful}
use Rattle.register.proofs.Run.{Run, world_in}
use Rattle.register.proofs.Outcomes.{next_counter}
use Rattle.register.proofs.Turns.{rested, opened, showed, spent, sent, ended}
use Rattle.register.proofs.Since.{TurnAt, turn_at}
use Rattle.register.proofs.PutCases.{PutsAt, SendsAt, sends_at, sent_pair}

start_small : (judge : Formats) → Lawful judge → (phase : Phase) → Starts judge phase
    → (entry_of phase).0 < 2 ^ 40
unfolding entry_of
start_small judge lawful Idle h = absurd h
start_small judge lawful Reading h = omega arith
start_small judge lawful (ReadingForWrite entry) h = lawful.small entry h
start_small judge lawful (Storing entry count) h = absurd h

module _ (run : Run) where
  pub entries : (n d : ℕ) → (entry_of ((world_in run n).clients d).phase).0 < 2 ^ 40
  unfolding world_at entry_of
  entries zero d = omega arith
  entries (suc n) d = go (entries n d) (turn_at run n d)
    where
      go : (entry_of ((world_in run n).clients d).phase).0 < 2 ^ 40 → TurnAt run n d
          → (entry_of ((world_in run (suc n)).clients d).phase).0 < 2 ^ 40
      go ih (rested was _ _ _) = rw was ih
      go ih (opened phase q checked now) =
          rw now (start_small run.judge run.lawful phase checked.phase)
      go ih (showed pair _ _ now _) = rw now (omega arith)
      go ih (spent pair entry _ _ now _) = rw now (omega arith)
      go ih (sent pair entry _ was now _ _) = rw now (rw was at ih)
      go ih (ended entry count _ _ _ _ now _) = rw now (omega arith)

  -- what a write sends has its client's number, and the timestamp of its counter and that number
  pub record SentStamp (n d : ℕ) (pair : Pair) : Type 0 where
    pub small : d < 2 ^ 4
    pub client : client pair ≡ d
    pub send : SendsAt run n d pair
    pub stamp : stamp pair ≡ ((counter send.put.pair).0 + 1) * 16 + d

  pub sent_stamp : (n d : ℕ) (pair : Pair) → PutsAt run n d pair → SentStamp n d pair
  unfolding entry_of
  sent_stamp n d pair puts =
      let s = sends_at run n d pair puts in
      let range = client_small run.settings run.accepted d s.by.enabled.client in
      let small : d < 2 ^ 4 = omega arith in
      let c = next_counter s.put.pair in
      let e = s.put.entry in
      let fits : e.0 < 2 ^ 40 = rw s.put.phase at (entries n d) in
      let is = sent_pair run n d pair s in
      record {
        small = small;
        client = ap client is ∙ client_of_lem c d e small fits;
        send = s;
        stamp = ap stamp is ∙ stamp_of_lem c d e small fits;
      }
