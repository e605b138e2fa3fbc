-- One pair for one timestamp: two genuine pairs with the same timestamp are the same pair.
--
-- Why: no two writes have one timestamp (`Unique`), a write sends one pair, and a sent pair's counter is at
-- least 1, so its timestamp is not the initial pair's. Hence of two genuine pairs the one with the higher
-- timestamp is the higher pair (`not_above`).
-- Assumes nothing.
use Rattle.basics.proofs.Prelude.{◌≡◌, sym, ap, ◌∙◌, subst, inl, inr, ℕ, ◌≤◌, arith}
use Rattle.basics.proofs.Ranges.{at_last}
use Rattle.message.proofs.Pairs.{initial_stamp, stamp_lt}
use Rattle.register.proofs.Vocabulary.{Pair, stamp}
use Rattle.register.proofs.Run.{Run}
use Rattle.register.proofs.Entries.{sent_stamp}
use Rattle.register.proofs.Genuine.{Written, Known}
use Rattle.register.proofs.Ordered.{Sending}
use Rattle.register.proofs.Unique.{unique, sends_once, sender}

module _ (run : Run) where
  written_high : (n : ℕ) (pair : Pair) → Written run n pair → 16 ≤ stamp pair
  written_high n pair written =
      let is = (sent_stamp run written.at written.client pair written.puts).stamp in omega arith

  written_same : (n : ℕ) (pair other : Pair) → Written run n pair → Written run n other
      → stamp pair ≡ stamp other → pair ≡ other
  written_same n pair other written written' e =
      let sent = sender run written.at written.client pair written.puts in
      let sent' = sender run written'.at written'.client other written'.puts in
      (sends_once (subst (λ (x : ℕ). Sending run x written.client written.at pair)
      (unique sent.sending sent'.sending e) sent.sending) sent'.sending).pair

  pub known_same : (n : ℕ) (pair other : Pair) → Known run n pair → Known run n other
      → stamp pair ≡ stamp other → pair ≡ other
  known_same n pair other (inl known) (inl known') e = known ∙ sym known'
  known_same n pair other (inl known) (inr known') e =
      absurd (let high = written_high n other known' in let low : stamp pair ≡ 0 = ap stamp known
      ∙ initial_stamp in
      omega arith)
  known_same n pair other (inr known) (inl known') e =
      absurd (let high = written_high n pair known in let low : stamp other ≡ 0 = ap stamp known'
      ∙ initial_stamp in
      omega arith)
  known_same n pair other (inr known) (inr known') e = written_same n pair other known known' e

  pub not_above : (n : ℕ) (pair other : Pair) → Known run n pair → Known run n other
      → stamp pair ≤ stamp other → pair.0 ≤ other.0
  not_above n pair other known known' le =
      at_last (stamp pair) (stamp other) (omega arith)
      (λ e. let number : pair.0 ≡ other.0 = ap (λ (z : Pair). z.0)
      (known_same n pair other known known' e) in
      omega arith) (λ less. let lt = stamp_lt pair other less in omega arith)
