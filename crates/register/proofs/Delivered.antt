-- Delivered: a pair that was sent is on its way to an honest server, or the server is at or above it.
--
-- Why: WRITE_INFO is put on every channel to an honest server, where nothing is lost; it leaves the channel
-- only when the server serves it, and then the server is at or above its pair, for ever (`Grows`).
-- Assumes nothing.
use Rattle.register.proofs.Vocabulary.{Member, Settings, is_honest, World, Event, apply, Formats}
use Rattle.register.proofs.Vocabulary.{world_at}
use Rattle.basics.proofs.Prelude.{◌≡◌, refl, true, ◌⊎◌, inl, inr, ℕ, suc, ◌≤◌, ◌<◌, le_trans}
use Rattle.basics.proofs.Cases.{by_either}
use Rattle.basics.proofs.Ranges.{from_on}
use Rattle.register.proofs.Vocabulary.{WriteInfo, Pair, stamp}
use Rattle.register.proofs.Enabled.{Enabled}
use Rattle.register.proofs.Run.{Run, world_in, event_in, enabled_at}
use Rattle.register.proofs.Frames.{server_after}
use Rattle.register.proofs.Channels.{up_stays, up_new}
use Rattle.register.proofs.PutCases.{PutsAt}
use Rattle.register.proofs.Grows.{served_write, grows}

-- the pair of client d is on its way to server k, or the server is at or above it
abbrev pub Arrives : World → ℕ → Pair → ℕ → Type 0
Arrives world d pair k =
    Member (WriteInfo pair) (world.up d k) ⊎ (stamp pair ≤ stamp (world.servers k).pair)

arrives_next : (settings : Settings) (judge : Formats) (world : World) (event : Event)
    → Enabled settings judge world event → (d : ℕ) (pair : Pair) (k : ℕ) → Arrives world d pair k
    → Arrives (apply settings world event) d pair k
arrives_next settings judge world event checked d pair k (inl h) =
    by_either (up_stays settings judge world event checked d k (WriteInfo pair) h) (λ a. inl a)
    (λ a. inr (rw (server_after settings world event k d (WriteInfo pair) a.0 a.1)
    (served_write (world.servers k) d (WriteInfo pair) pair refl)))
arrives_next settings judge world event checked d pair k (inr h) =
    inr (le_trans h (grows settings judge world event checked k))

-- from the step that sends it on
pub delivered : (run : Run) (n i : ℕ) → i < n → (d : ℕ) (pair : Pair) (k : ℕ)
    → is_honest run.settings k ≡ true → PutsAt run i d pair → Arrives (world_in run n) d pair k
unfolding world_at
delivered run n i h d pair k honest puts =
    from_on (λ n. Arrives (world_in run n) d pair k) (suc i)
    (inl (up_new run.settings run.judge (world_in run i) (event_in run i) d k
    (WriteInfo pair) honest puts))
    (λ n _ ih. arrives_next run.settings run.judge (world_in run n) (event_in run n)
    (enabled_at run n) d pair k ih) n h
