-- Genuine: every pair that an honest server holds or sent, or that stands in a client's set for it, is
-- initial or was sent by a write.
--
-- Why: a server's pair is the initial one or came in a WRITE_INFO; what it sends is its pair or that of a
-- WRITE_INFO; what stands in a set came from the server; and only a write's D puts WRITE_INFO on a channel to
-- it.
-- Assumes nothing.
use Rattle.register.proofs.Vocabulary.{Member, Settings, is_honest, Server, next_server, Client, started}
use Rattle.register.proofs.Vocabulary.{World, Event, apply, Formats, world_at}
use Rattle.basics.proofs.Prelude.{◌≡◌, refl, subst, true, ◌⊎◌, inl, inr, ℕ, zero, suc, ◌<◌, arith}
use Rattle.basics.proofs.Cases.{by_either}
use Rattle.register.proofs.Vocabulary.{Message, GetInfo, Info, Done, WriteInfo, Fwd, WriteAck, Pair}
use Rattle.register.proofs.Vocabulary.{initial}
use Rattle.register.proofs.Enabled.{Enabled}
use Rattle.register.proofs.Run.{Run, world_in, event_in, enabled_at}
use Rattle.register.proofs.Sends.{Reply, info, forward, ack}
use Rattle.register.proofs.Frames.{ClientNext, same, starts, responds, client_next, ServerNext, kept}
use Rattle.register.proofs.Frames.{served, server_next}
use Rattle.register.proofs.Channels.{Puts, up_cases, down_cases}
use Rattle.register.proofs.Carried.{Good, carried, good_mono}
use Rattle.register.proofs.Grows.{pair_after}
use Rattle.register.proofs.ClientFacts.{came}
use Rattle.register.proofs.PutCases.{put_case, PutsAt}

pub record Genuine (settings : Settings) (world : World) (Q : Pair → Type 0) : Type 0 where
  pub up : (d k : ℕ) (message : Message) → Member message (world.up d k) → Good Q message
  pub server : (k : ℕ) → Q (world.servers k).pair
  pub down : (d k : ℕ) → is_honest settings k ≡ true → (message : Message) → Member message (world.down d k)
      → Good Q message
  pub sets : (d k : ℕ) → is_honest settings k ≡ true → (pair : Pair) → Member pair ((world.clients d).sets k)
      → Q pair

module _ (Q : Pair → Type 0) where
  after_good : (server : Server) (d : ℕ) (message : Message) → Q server.pair → Good Q message
      → Q (next_server server d message).pair
  after_good server d message a b =
      by_either (pair_after server d message) (λ q. rw q a)
      (λ q. let good : Good Q (WriteInfo q.0) = subst (Good Q) q.1 b in rw q.2 good)

  reply_good : (server : Server) (d' : ℕ) (message : Message) (d : ℕ) (message' : Message) → Q server.pair
      → Good Q message → Reply server d' message d message' → Good Q message'
  reply_good server d' message d message' a b (info tag e q) = a
  reply_good server d' message d message' a b (forward pair e q) = rw e at b
  reply_good server d' message d message' a b (ack pair e q) = tt

module _ (settings : Settings) (judge : Formats) (world : World) (event : Event)
    (checked : Enabled settings judge world event) (Q Q' : Pair → Type 0)
    (old : Genuine settings world Q) (more : (pair : Pair) → Q pair → Q' pair)
    (new : (d : ℕ) (message : Message) → Puts settings judge world event d message → Good Q' message) where
  server_good : (k : ℕ) (y : Server) → ServerNext settings judge world event k y → Q' y.pair
  server_good k y kept = more _ (old.server k)
  server_good k y (served d message rest _ on) =
      more _ (after_good Q (world.servers k) d message (old.server k)
      (old.up d k message (rw on.channel (inl refl))))

  sets_good : (d k : ℕ) → is_honest settings k ≡ true → (after : Client)
      → ClientNext settings judge world event d after → (pair : Pair) → Member pair (after.sets k)
      → Q' pair
  unfolding started
  sets_good d k honest after (same _ _) pair member = more pair (old.sets d k honest pair member)
  sets_good d k honest after (starts phase _ _) pair member = absurd member
  sets_good d k honest after (responds taken response _ out) pair member =
      let on = taken.enabled in
      more pair (by_either ((came out).pair k pair member) (λ a. old.sets d k honest pair a)
      (λ a. carried Q taken.message pair a.message
      (old.down d k honest taken.message (rw (← a.server, on.channel) (inl refl)))))

  genuine_next : Genuine settings (apply settings world event) Q'
  genuine_next =
      record {
        up =
            λ d k message member. by_either (up_cases settings judge world event checked d k message member)
            (λ a. good_mono Q Q' more message (old.up d k message a)) (λ a. new d message a);
        server = λ k. server_good k _ (server_next settings judge world event checked k);
        down = λ d k honest message member. good_mono Q Q' more message
            (by_either (down_cases settings judge world event checked d k honest message member)
            (λ a. old.down d k honest message a)
            (λ a. reply_good Q (world.servers k) a.sender a.message d message (old.server k)
            (old.up a.sender k a.message (rw a.channel (inl refl))) a.reply));
        sets = λ d k honest pair member. sets_good d k honest _
            (client_next settings judge world event checked d) pair member;
      }

module _ (run : Run) where
  -- the pair was sent by a write before step n
  pub record Written (n : ℕ) (pair : Pair) : Type 0 where
    pub at : ℕ
    pub before : at < n
    pub client : ℕ
    pub puts : PutsAt run at client pair

  abbrev pub Known : ℕ → Pair → Type 0
  Known n pair = (pair ≡ initial) ⊎ Written n pair

  known_more : (n : ℕ) (pair : Pair) → Known n pair → Known (suc n) pair
  known_more n pair (inl e) = inl e
  known_more n pair (inr k) =
      inr (record {
        at = k.at;
        before = let x = k.before in omega arith;
        client = k.client;
        puts = k.puts;
      })

  known_new : (n d : ℕ) (message : Message)
      → Puts run.settings run.judge (world_in run n) (event_in run n) d message
      → Good (Known (suc n)) message
  known_new n d (GetInfo tag) puts = tt
  known_new n d (Info tag pair) puts =
      absurd (put_case run.settings run.judge (world_in run n) (event_in run n) (enabled_at run n) d
      (Info tag pair) puts)
  known_new n d Done puts = tt
  known_new n d (WriteInfo pair) puts = inr (record { at = n; before = omega arith; client = d; puts = puts })
  known_new n d (Fwd pair) puts =
      absurd (put_case run.settings run.judge (world_in run n) (event_in run n) (enabled_at run n) d
      (Fwd pair) puts)
  known_new n d (WriteAck count) puts = tt

  pub genuine : (n : ℕ) → Genuine run.settings (world_in run n) (Known n)
  unfolding world_at
  genuine zero =
      record {
        up = λ d k message member. absurd member;
        server = λ k. inl refl;
        down = λ d k honest message member. absurd member;
        sets = λ d k honest pair member. absurd member;
      }
  genuine (suc n) =
      genuine_next run.settings run.judge (world_in run n) (event_in run n) (enabled_at run n) (Known n)
      (Known (suc n))
      (genuine n) (known_more n) (known_new n)
