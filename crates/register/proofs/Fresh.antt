-- Fresh: what a reading client has of an honest server for this read is as new as the server was when
-- the read began.
--
-- Why: the read has a read number of its own. An INFO with that number answers the GET_INFO of this read, so
-- the server sent it after the read began, with its pair of that moment, and server timestamps never fall
-- (`Grows`). A timestamp is noted only from an INFO with the current number. A message with an older number
-- never gets the current one, since a start raises it.
-- Assumes nothing.
use Rattle.register.proofs.Vocabulary.{Member, Settings, is_honest, Client, next_read, started, Server}
use Rattle.register.proofs.Vocabulary.{World, Event, apply, Formats, world_at}
use Rattle.basics.proofs.Prelude.{◌≡◌, refl, sym, ap, ◌∙◌, subst, Bool, true, false, inl, Some, ℕ, zero, suc}
use Rattle.basics.proofs.Prelude.{◌+◌, ◌≤◌, le_trans, arith, eq-eqb}
use Rattle.basics.proofs.Cases.{by_test, by_either, true_or_false, clash}
use Rattle.register.proofs.Vocabulary.{Message, GetInfo, Info, Pair, ReadNumber, stamp}
use Rattle.register.proofs.Enabled.{Enabled}
use Rattle.register.proofs.Run.{Run, world_in, event_in, enabled_at}
use Rattle.register.proofs.Sends.{Reply, info, forward, ack}
use Rattle.register.proofs.Frames.{starts_at, ClientNext, same, starts, responds, client_next}
use Rattle.register.proofs.Channels.{Answers, up_cases, down_cases}
use Rattle.register.proofs.Grows.{grows_on}
use Rattle.register.proofs.ClientFacts.{none_some, came}
use Rattle.register.proofs.PutCases.{put_case}
use Rattle.register.proofs.Since.{since, since_le}

-- the read number of a client stays, and a start raises it
pub record ReadsNext (self after : Client) (starts : Bool) : Type 0 where
  pub stays : starts ≡ false → after.reads ≡ self.reads
  pub more : starts ≡ true → after.reads.0 ≡ self.reads.0 + 1

module _ (settings : Settings) (judge : Formats) (world : World) (event : Event) (d : ℕ) where
  pub reads_next : (after : Client) → ClientNext settings judge world event d after
      → ReadsNext (world.clients d) after (starts_at event d)
  unfolding started next_read
  reads_next after (same h _) = record { stays = λ q. refl; more = λ q. absurd (true_or_false _ q h) }
  reads_next after (starts phase h _) =
      record {
        stays = λ q. absurd (true_or_false false (sym (rw (h, eq-eqb d d refl) at q)) refl);
        more = λ q. refl;
      }
  reads_next after (responds taken response _ out) =
      let h = taken.event in
      record { stays = λ q. (came out).reads; more = λ q. absurd (true_or_false false (rw h at q) refl) }

reads_grow : (self after : Client) (test : Bool) → ReadsNext self after test
    → self.reads.0 ≤ after.reads.0
reads_grow self after test reads =
    by_test test (λ h. rw (reads.more h) (omega arith))
    (λ h. let q : after.reads.0 ≡ self.reads.0 = ap (λ (n : ReadNumber). n.0) (reads.stays h) in
    omega arith)

-- began d k: the timestamp of server k when client d last began
pub record Fresh (settings : Settings) (world : World) (began : ℕ → ℕ → ℕ) : Type 0 where
  pub asked : (d k : ℕ) (tag : ReadNumber) → Member (GetInfo tag) (world.up d k)
      → tag.0 ≤ (world.clients d).reads.0
  pub told : (d k : ℕ) → is_honest settings k ≡ true → (tag : ReadNumber) (pair : Pair)
      → Member (Info tag pair) (world.down d k) → tag.0 ≤ (world.clients d).reads.0
  pub info : (d k : ℕ) → is_honest settings k ≡ true → (tag : ReadNumber) (pair : Pair)
      → Member (Info tag pair) (world.down d k) → tag ≡ (world.clients d).reads → began d k ≤ stamp pair
  pub noted : (d k : ℕ) → is_honest settings k ≡ true → (time : ℕ) → (world.clients d).noted k ≡ Some time
      → began d k ≤ time

-- an INFO answers a GET_INFO with its number, and carries the server's pair
pub record Asked (world : World) (d k : ℕ) (tag : ReadNumber) (carried : Pair) : Type 0 where
  pub get : Member (GetInfo tag) (world.up d k)
  pub pair : carried ≡ (world.servers k).pair

info_of : (server : Server) (d' : ℕ) (message : Message) (d : ℕ) (message' : Message)
    → Reply server d' message d message' → (tag : ReadNumber) (pair : Pair)
    → message' ≡ Info tag pair → (message ≡ GetInfo tag) × (pair ≡ server.pair) × (d' ≡ d)
info_of server d' message d message' (info tag' e q) tag pair h =
    let z : tag' ≡ tag = cc in (rw z at e, (cc), q)
info_of server d' message d message' (forward pair' e q) tag pair h = clash (cc)
info_of server d' message d message' (ack pair' e q) tag pair h = clash (cc)

module _ (settings : Settings) (judge : Formats) (world : World) (event : Event) where
  pub asks_for : (d k : ℕ) (tag : ReadNumber) (pair : Pair)
      → Answers settings judge world event d k (Info tag pair) → Asked world d k tag pair
  asks_for d k tag pair answers =
      let s = info_of (world.servers k) answers.sender answers.message d (Info tag pair)
      answers.reply tag pair refl in
      record {
        get = subst (λ (c : ℕ). Member (GetInfo tag) (world.up c k)) s.2
            (rw answers.channel (inl (sym s.0)));
        pair = s.1;
      }

  module _ (checked : Enabled settings judge world event) (began began' : ℕ → ℕ → ℕ)
      (old : Fresh settings world began) (below : (d k : ℕ) → began d k ≤ stamp (world.servers k).pair)
      (as_was : (d k : ℕ) → starts_at event d ≡ false → began' d k ≡ began d k) where
    next : (d : ℕ) → ReadsNext (world.clients d) ((apply settings world event).clients d) (starts_at event d)
    next d = reads_next settings judge world event d _ (client_next settings judge world event checked d)

    grown : (d : ℕ) → (world.clients d).reads.0 ≤ ((apply settings world event).clients d).reads.0
    grown d = reads_grow _ _ _ (next d)

    -- the number of an INFO that is on a channel after the event, before the event
    old_number : (d k : ℕ) → is_honest settings k ≡ true → (tag : ReadNumber) (pair : Pair)
        → Member (Info tag pair) ((apply settings world event).down d k)
        → tag.0 ≤ (world.clients d).reads.0
    old_number d k honest tag pair member =
        by_either (down_cases settings judge world event checked d k honest (Info tag pair) member)
        (λ a. old.told d k honest tag pair a) (λ a. old.asked d k tag (asks_for d k tag pair a).get)

    fresh_asked : (d k : ℕ) (tag : ReadNumber) → Member (GetInfo tag) ((apply settings world event).up d k)
        → tag.0 ≤ ((apply settings world event).clients d).reads.0
    unfolding next_read
    fresh_asked d k tag member =
        by_either (up_cases settings judge world event checked d k (GetInfo tag) member)
        (λ a. le_trans (old.asked d k tag a) (grown d))
        (λ a. let g = put_case settings judge world event checked d (GetInfo tag) a in
        let q = (next d).more g.0 in
        let z : tag.0 ≡ (world.clients d).reads.0 + 1 = ap (λ (n : ReadNumber). n.0) g.1 in
        omega arith)

    fresh_info : (d k : ℕ) → is_honest settings k ≡ true → (tag : ReadNumber) (pair : Pair)
        → Member (Info tag pair) ((apply settings world event).down d k)
        → tag ≡ ((apply settings world event).clients d).reads → began' d k ≤ stamp pair
    fresh_info d k honest tag pair member q =
        by_test (starts_at event d) (λ s. let lower = old_number d k honest tag pair member in
        let more = (next d).more s in
        let z : tag.0 ≡ ((apply settings world event).clients d).reads.0 = ap (λ (n : ReadNumber). n.0) q in
        absurd (omega arith))
        (λ s. rw (as_was d k s)
        (by_either (down_cases settings judge world event checked d k honest (Info tag pair) member)
        (λ a. old.info d k honest tag pair a (q ∙ (next d).stays s))
        (λ a. rw (asks_for d k tag pair a).pair (below d k))))

    fresh_noted : (d k : ℕ) → is_honest settings k ≡ true → (time : ℕ) (after : Client)
        → ClientNext settings judge world event d after → after.noted k ≡ Some time → began' d k ≤ time
    unfolding started
    fresh_noted d k honest time after (same s _) h = rw (as_was d k s) (old.noted d k honest time h)
    fresh_noted d k honest time after (starts phase _ _) h = absurd (none_some h)
    fresh_noted d k honest time after (responds taken response _ out) h =
        let q = taken.event in
        let on = taken.enabled in
        rw (as_was d k (rw q refl))
        (by_either ((came out).note k time h) (λ a. old.noted d k honest time a)
        (λ a. rw a.is (old.info d k honest (world.clients d).reads a.pair
        (rw (← a.server, on.channel) (inl (sym a.message))) refl)))

    fresh_next : Fresh settings (apply settings world event) began'
    fresh_next =
        record {
          asked = fresh_asked;
          told = λ d k honest tag pair member. le_trans (old_number d k honest tag pair member) (grown d);
          info = fresh_info;
          noted = λ d k honest time h. fresh_noted d k honest time _
              (client_next settings judge world event checked d) h;
        }

module _ (run : Run) where
  -- the timestamp of server k when client d last began
  abbrev pub base : ℕ → ℕ → ℕ → ℕ
  base n d k = stamp ((world_in run (since run n d)).servers k).pair

  pub fresh : (n : ℕ) → Fresh run.settings (world_in run n) (base n)
  unfolding world_at since
  fresh zero =
      record {
        asked = λ d k tag member. absurd member;
        told = λ d k honest tag pair member. absurd member;
        info = λ d k honest tag pair member q. absurd member;
        noted = λ d k honest time h. absurd (none_some h);
      }
  fresh (suc n) =
      fresh_next run.settings run.judge (world_in run n) (event_in run n) (enabled_at run n) (base n)
      (base (suc n)) (fresh n)
      (λ d k. grows_on run (since run n d) n (since_le run n d) k) (λ d k s. rw s refl)
