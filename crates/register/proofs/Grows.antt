-- Server timestamps never fall.
--
-- Why: a server's pair changes only by WRITE_INFO, and then to a pair with a higher timestamp.
-- Assumes nothing.
use Rattle.basics.proofs.Prelude.{◌≡◌, refl, ◌⊎◌, inl, inr, ℕ, ◌≤◌, ◌<◌, le_refl, le_trans, arith, ltb}
use Rattle.basics.proofs.Prelude.{ltb-true, ltb-false}
use Rattle.basics.proofs.Cases.{by_test, by_either}
use Rattle.basics.proofs.Ranges.{from_on}
use Rattle.register.proofs.Vocabulary.{Settings, Server, stored, next_server, World, Event, apply}
use Rattle.register.proofs.Vocabulary.{Formats, world_at}
use Rattle.register.proofs.Vocabulary.{Message, GetInfo, Info, Done, WriteInfo, Fwd, WriteAck, Pair}
use Rattle.register.proofs.Vocabulary.{stamp}
use Rattle.register.proofs.Enabled.{Enabled}
use Rattle.register.proofs.Run.{Run, world_in, event_in, enabled_at}
use Rattle.register.proofs.Frames.{ServerNext, kept, served, server_next}

-- a server's pair stays, or is replaced by that of a WRITE_INFO with a higher timestamp
pub pair_after : (server : Server) (d : ℕ) (message : Message)
    → ((next_server server d message).pair ≡ server.pair)
    ⊎ ((pair : Pair) × (message ≡ WriteInfo pair) × ((next_server server d message).pair ≡ pair) ×
    (stamp server.pair < stamp pair))
unfolding next_server stored
pair_after server d (GetInfo tag) = inl refl
pair_after server d (Info tag pair) = inl refl
pair_after server d Done = inl refl
pair_after server d (WriteInfo pair) =
    by_test (ltb (stamp server.pair) (stamp pair)) (λ e. rw e (inr (pair, refl, refl, ltb-true _ _ e)))
    (λ e. rw e (inl refl))
pair_after server d (Fwd pair) = inl refl
pair_after server d (WriteAck count) = inl refl

pub server_grows : (server : Server) (d : ℕ) (message : Message)
    → stamp server.pair ≤ stamp (next_server server d message).pair
server_grows server d message =
    by_either (pair_after server d message) (λ q. rw q (le_refl _))
    (λ q. let lt = q.3 in rw q.2 (omega arith))

-- a server that has served WRITE_INFO is at or above its pair
pub served_write : (server : Server) (d : ℕ) (message : Message) (pair : Pair) → message ≡ WriteInfo pair
    → stamp pair ≤ stamp (next_server server d message).pair
unfolding next_server stored
served_write server d message pair e =
    rw e (by_test (ltb (stamp server.pair) (stamp pair)) (λ f. rw f (le_refl _))
    (λ f. rw f (ltb-false _ _ f)))

pub grows : (settings : Settings) (judge : Formats) (world : World) (event : Event)
    → Enabled settings judge world event → (k : ℕ)
    → stamp (world.servers k).pair ≤ stamp ((apply settings world event).servers k).pair
grows settings judge world event checked k = go (server_next settings judge world event checked k)
  where
    go : {server : Server} → ServerNext settings judge world event k server
        → stamp (world.servers k).pair ≤ stamp server.pair
    go kept = le_refl _
    go (served d message rest _ _) = server_grows (world.servers k) d message

-- from any step on
pub grows_on : (run : Run) (i j : ℕ) → i ≤ j → (k : ℕ)
    → stamp ((world_in run i).servers k).pair ≤ stamp ((world_in run j).servers k).pair
unfolding world_at
grows_on run i j h k =
    from_on (λ j. stamp ((world_in run i).servers k).pair ≤ stamp ((world_in run j).servers k).pair) i
    (le_refl _) (λ j _ ih. le_trans ih
    (grows run.settings run.judge (world_in run j) (event_in run j) (enabled_at run j) k)) j h
