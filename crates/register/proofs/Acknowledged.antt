-- Acknowledged: an honest server that has acknowledged a write is at or above the write's timestamp.
--
-- Why: it sends WRITE_ACK c to a client only when it serves a WRITE_INFO of that client with counter c,
-- which carries the client's own number, and after that it is at or above that pair (`Grows.served_write`)
-- and never falls.
-- Assumes nothing.
use Rattle.register.proofs.Vocabulary.{Member, Settings, is_honest, Server, next_server, Client, started}
use Rattle.register.proofs.Vocabulary.{World, Event, apply, Formats, world_at}
use Rattle.basics.proofs.Prelude.{◌≡◌, refl, sym, ap, true, false, inl, ℕ, zero, suc, ◌+◌, ◌*◌, ◌≤◌, le_trans}
use Rattle.basics.proofs.Prelude.{arith}
use Rattle.basics.proofs.Cases.{by_either, true_or_false, clash}
use Rattle.message.proofs.Pairs.{stamp_is}
use Rattle.register.proofs.Vocabulary.{Message, WriteInfo, WriteAck, Pair, WriteCounter, stamp}
use Rattle.register.proofs.Vocabulary.{counter, client}
use Rattle.register.proofs.Enabled.{Enabled}
use Rattle.register.proofs.Run.{Run, world_in, event_in, enabled_at}
use Rattle.register.proofs.Sends.{Reply, info, forward, ack}
use Rattle.register.proofs.Frames.{ClientNext, same, starts, responds, client_next, server_after}
use Rattle.register.proofs.Channels.{Answers, Puts, up_cases, down_cases}
use Rattle.register.proofs.Grows.{served_write, grows}
use Rattle.register.proofs.ClientFacts.{Acks, came}
use Rattle.register.proofs.Entries.{sent_stamp}

-- server k is at or above the timestamp of the counter and client d
abbrev pub AtLeast : World → ℕ → ℕ → WriteCounter → Type 0
AtLeast world d k count = count.0 * 16 + d ≤ stamp (world.servers k).pair

pub record Acknowledged (settings : Settings) (world : World) : Type 0 where
  pub own : (d k : ℕ) (pair : Pair) → Member (WriteInfo pair) (world.up d k) → client pair ≡ d
  pub channel : (d k : ℕ) → is_honest settings k ≡ true → (count : WriteCounter)
      → Member (WriteAck count) (world.down d k) → AtLeast world d k count
  pub counted : (d k : ℕ) → is_honest settings k ≡ true → (count : WriteCounter)
      → Acks (world.clients d) k count → AtLeast world d k count

-- a WRITE_ACK answers a WRITE_INFO with its counter
ack_of : (server : Server) (a : ℕ) (message : Message) (d : ℕ) (message' : Message)
    → Reply server a message d message' → (count : WriteCounter) → message' ≡ WriteAck count
    → (pair : Pair) × (message ≡ WriteInfo pair) × (counter pair ≡ count) × (a ≡ d)
ack_of server a message d message' (info tag e q) count h = clash (cc)
ack_of server a message d message' (forward pair e q) count h = clash (cc)
ack_of server a message d message' (ack pair e q) count h = (pair, e, (cc), q)

module _ (settings : Settings) (judge : Formats) (world : World) (event : Event)
    (checked : Enabled settings judge world event) (old : Acknowledged settings world)
    (new : (d : ℕ) (pair : Pair) → Puts settings judge world event d (WriteInfo pair) → client pair ≡ d) where
  answered : (d k : ℕ) (count : WriteCounter) → Answers settings judge world event d k (WriteAck count)
      → AtLeast (apply settings world event) d k count
  answered d k count answers =
      let s = ack_of (world.servers k) answers.sender answers.message d (WriteAck count)
      answers.reply count refl in
      let pair = s.0 in
      let own : client pair ≡ answers.sender =
      old.own answers.sender k pair (rw answers.channel (inl (sym s.1))) in
      let high : stamp pair ≤ stamp
      (next_server (world.servers k) answers.sender answers.message).pair =
      served_write (world.servers k) answers.sender answers.message pair s.1 in
      let is : stamp pair ≡ (counter pair).0 * 16 + client pair = stamp_is pair in
      let same : (counter pair).0 ≡ count.0 = ap (λ (n : WriteCounter). n.0) s.2 in
      let to : answers.sender ≡ d = s.3 in
      rw (server_after settings world event k answers.sender answers.message answers.rest
      answers.event) (omega arith)

  counts : (d k : ℕ) → is_honest settings k ≡ true → (count : WriteCounter) (after : Client)
      → ClientNext settings judge world event d after → Acks after k count → AtLeast world d k count
  unfolding started
  counts d k honest count after (same _ _) h = old.counted d k honest count h
  counts d k honest count after (starts phase _ _) h = absurd (true_or_false false h.acks refl)
  counts d k honest count after (responds taken response _ out) h =
      let on = taken.enabled in
      by_either ((came out).acks k count h) (λ a. old.counted d k honest count a)
      (λ a. old.channel d k honest count (rw (← a.0, on.channel) (inl (sym a.1))))

  acknowledged_next : Acknowledged settings (apply settings world event)
  acknowledged_next =
      record {
        own =
            λ d k pair member. by_either
            (up_cases settings judge world event checked d k (WriteInfo pair) member)
            (λ a. old.own d k pair a) (λ a. new d pair a);
        channel =
            λ d k honest count member. by_either (down_cases settings judge world event checked d k honest
            (WriteAck count) member)
            (λ a. le_trans (old.channel d k honest count a) (grows settings judge world event checked k))
            (λ a. answered d k count a);
        counted = λ d k honest count h. le_trans
            (counts d k honest count _ (client_next settings judge world event checked d) h)
            (grows settings judge world event checked k);
      }

pub acknowledged : (run : Run) (n : ℕ) → Acknowledged run.settings (world_in run n)
unfolding world_at
acknowledged run zero =
    record {
      own = λ d k pair member. absurd member;
      channel = λ d k honest count member. absurd member;
      counted = λ d k honest count h. absurd (true_or_false false h.acks refl);
    }
acknowledged run (suc n) =
    acknowledged_next run.settings run.judge (world_in run n) (event_in run n) (enabled_at run n)
    (acknowledged run n) (λ d pair h. (sent_stamp run n d pair h).client)
