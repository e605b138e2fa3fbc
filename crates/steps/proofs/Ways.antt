-- The oldest message of a channel to a server goes up, and of one to a client down.
--
-- Why: the channels from clients stand before those back, so an index tells the way.
-- Assumes nothing.
use Rattle.basics.proofs.Prelude.{◌≡◌, sym, ap, ◌∙◌, Bool, true, false, List, ℕ, ◌-◌, ◌≤◌, arith, le-leb}
use Rattle.basics.proofs.Prelude.{lt-leb}
use Rattle.register.proofs.Vocabulary.{goes, most_clients, most_servers}
use Rattle.channel.specs.Memory.{upward, count_at}
use Rattle.state.specs.State.{up_index, down_index, message_at}
use Rattle.steps.specs.InMemory.{request_at, reply_at}
use Rattle.steps.specs.Ready.{OldestGoes}

module _ (slots : List ℕ) (ways : OldestGoes slots) (d k : ℕ) (d_low : 1 ≤ d) (d_high : d ≤ most_clients)
    (k_low : 1 ≤ k) (k_high : k ≤ most_servers) where
  pub request_goes : 1 ≤ count_at slots (up_index (d - 1) (k - 1)) → goes false (request_at slots k d) ≡ true
  request_goes some =
      let i = up_index (d - 1) (k - 1) in
      ap (λ (down : Bool). goes down (message_at slots i)) (sym (lt-leb upward i (omega arith)))
      ∙ ways i (omega arith) some

  pub reply_goes : 1 ≤ count_at slots (down_index (d - 1) (k - 1)) → goes true (reply_at slots d k) ≡ true
  reply_goes some =
      let i = down_index (d - 1) (k - 1) in
      ap (λ (down : Bool). goes down (message_at slots i)) (sym (le-leb upward i (omega arith)))
      ∙ ways i (omega arith) some
