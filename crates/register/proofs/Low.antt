-- Low: what an honest server has told has at most the timestamp that the server holds.
--
-- Why: INFO carries the server's own pair, FWD the pair of a WRITE_INFO that the server has just stored or
-- passed by for a higher one, and server timestamps never fall (`Grows`). A pair in a set of that server, and
-- its noted timestamp, came in such a message.
-- Assumes nothing.
use Rattle.register.proofs.Vocabulary.{Member, Settings, is_honest, Server, next_server, Client, started}
use Rattle.register.proofs.Vocabulary.{World, Event, apply, Formats, world_at}
use Rattle.basics.proofs.Prelude.{◌≡◌, refl, true, inl, Some, ℕ, zero, suc, ◌≤◌, le_trans}
use Rattle.basics.proofs.Cases.{by_either}
use Rattle.register.proofs.Vocabulary.{Message, Pair, stamp}
use Rattle.register.proofs.Enabled.{Enabled}
use Rattle.register.proofs.Run.{Run, world_in, event_in, enabled_at}
use Rattle.register.proofs.Sends.{Reply, info, forward, ack}
use Rattle.register.proofs.Frames.{ClientNext, same, starts, responds, client_next, server_after}
use Rattle.register.proofs.Channels.{down_cases}
use Rattle.register.proofs.Carried.{Good, carried, good_mono}
use Rattle.register.proofs.Grows.{server_grows, served_write, grows}
use Rattle.register.proofs.ClientFacts.{none_some, came}

-- a message's pair has at most the timestamp `bound`
abbrev pub LowMessage : ℕ → Message → Type 0
LowMessage bound message = Good (λ p. stamp p ≤ bound) message

-- what the client has of server k has at most the timestamp `bound`
pub record LowClient (bound : ℕ) (self : Client) (k : ℕ) : Type 0 where
  pub sets : (pair : Pair) → Member pair (self.sets k) → stamp pair ≤ bound
  pub noted : (time : ℕ) → self.noted k ≡ Some time → time ≤ bound

pub record Low (settings : Settings) (world : World) : Type 0 where
  pub channels : (d k : ℕ) → is_honest settings k ≡ true → (message : Message)
      → Member message (world.down d k) → LowMessage (stamp (world.servers k).pair) message
  pub clients : (d k : ℕ) → is_honest settings k ≡ true
      → LowClient (stamp (world.servers k).pair) (world.clients d) k

reply_low : (server : Server) (d' : ℕ) (message : Message) (d : ℕ) (message' : Message)
    → Reply server d' message d message' → LowMessage (stamp (next_server server d' message).pair) message'
reply_low server d' message d message' (info tag e q) = server_grows server d' message
reply_low server d' message d message' (forward pair e q) = served_write server d' message pair e
reply_low server d' message d message' (ack pair e q) = tt

module _ (settings : Settings) (judge : Formats) (world : World) (event : Event)
    (checked : Enabled settings judge world event) (old : Low settings world) where
  -- what has just come is from a message on the channel
  client_low : (d k : ℕ) → is_honest settings k ≡ true → (after : Client)
      → ClientNext settings judge world event d after → LowClient (stamp (world.servers k).pair) after k
  unfolding started
  client_low d k honest after (same _ _) = old.clients d k honest
  client_low d k honest after (starts phase _ _) =
      record { sets = λ pair member. absurd member; noted = λ time h. absurd (none_some h) }
  client_low d k honest after (responds taken response _ out) =
      let on = taken.enabled in
      let message : taken.server ≡ k → LowMessage (stamp (world.servers k).pair) taken.message =
      λ q. old.channels d k honest taken.message (rw (← q, on.channel) (inl refl)) in
      record {
        sets =
            λ pair member. by_either ((came out).pair k pair member)
            (λ a. (old.clients d k honest).sets pair a)
            (λ a. carried _ taken.message pair a.message (message a.server));
        noted = λ time h. by_either ((came out).note k time h) (λ a. (old.clients d k honest).noted time a)
            (λ a. rw a.is (rw a.message at (message a.server)));
      }

  low_next : Low settings (apply settings world event)
  low_next =
      record {
        channels =
            λ d k honest message member. by_either
            (down_cases settings judge world event checked d k honest message member)
            (λ a. good_mono _ _ (λ p low. le_trans low (grows settings judge world event checked k)) message
            (old.channels d k honest message a))
            (λ a. rw (server_after settings world event k a.sender a.message a.rest a.event)
            (reply_low (world.servers k) a.sender a.message d message a.reply));
        clients =
            λ d k honest. let c = client_low d k honest _
            (client_next settings judge world event checked d) in
            record {
              sets = λ pair member. le_trans (c.sets pair member)
                  (grows settings judge world event checked k);
              noted = λ time h. le_trans (c.noted time h) (grows settings judge world event checked k);
            };
      }

pub low : (run : Run) (n : ℕ) → Low run.settings (world_in run n)
unfolding world_at
low run zero =
    record {
      channels = λ d k honest message member. absurd member;
      clients = λ d k honest. record {
        sets = λ pair member. absurd member;
        noted = λ time h. absurd (none_some h);
      };
    }
low run (suc n) =
    low_next run.settings run.judge (world_in run n) (event_in run n) (enabled_at run n) (low run n)
