-- The step at which a client last began: `since run n d`, for client d before step n (0 if it never did).
--
-- It changes only where d starts, and while an operation is open it is the step that began it.
-- Assumes nothing.
use Rattle.basics.proofs.Prelude.{◌≡◌, refl, true, false, cond, ℕ, zero, suc, ◌≤◌, le_refl, arith}
use Rattle.basics.proofs.Cases.{by_test}
use Rattle.basics.proofs.Update.{update_same}
use Rattle.register.proofs.Vocabulary.{Phase, started, begins, next_clients, apply, world_at}
use Rattle.register.proofs.Run.{Run, world_in, event_in, enabled_at}
use Rattle.register.proofs.Frames.{starts_at}
use Rattle.register.proofs.Turns.{Turn, turn}

module _ (run : Run) where
  unfoldable pub since : ℕ → ℕ → ℕ
  since zero d = 0
  since (suc n) d = cond (starts_at (event_in run n) d) n (since n d)

  pub since_le : (n d : ℕ) → since n d ≤ n
  unfolding since
  since_le zero d = le_refl _
  since_le (suc n) d =
      let ih = since_le n d in
      by_test (starts_at (event_in run n) d) (λ e. rw e (omega arith)) (λ e. rw e (omega arith))

  pub since_stays : (n d : ℕ) → starts_at (event_in run n) d ≡ false → since (suc n) d ≡ since n d
  unfolding since
  since_stays n d h = rw h refl

  pub since_starts : (n d : ℕ) → starts_at (event_in run n) d ≡ true → since (suc n) d ≡ n
  unfolding since
  since_starts n d h = rw h refl

  -- the turn of client d at step n
  abbrev pub TurnAt : ℕ → ℕ → Type 0
  TurnAt n d =
      Turn run.settings run.judge (world_in run n) (event_in run n) d ((world_in run (suc n)).clients d)

  pub turn_at : (n d : ℕ) → TurnAt n d
  unfolding world_at
  turn_at n d = turn run.settings run.judge (world_in run n) (event_in run n) (enabled_at run n) d

  -- a client that has just begun is in its phase
  pub begun_phase : (begin d : ℕ) (phase : Phase) → event_in run begin ≡ begins d phase
      → ((world_in run (suc begin)).clients d).phase ≡ phase
  unfolding world_at apply next_clients started
  begun_phase begin d phase h = rw (h, update_same) refl
