-- The three answers of packing, with what each leaves in the buffer.
--
-- In the table's order: a field over its width (9), a short buffer (13), packed. Eleven bytes stored from the
-- front stand before what was behind them.
-- Assumes nothing.
use Rattle.basics.proofs.Prelude.{◌≡◌, refl, ap, ◌∙◌, true, false, List, ◌++◌, length, drop, ℕ, ◌≤◌, ◌<◌}
use Rattle.basics.proofs.Prelude.{zero-add, arith, lt-ltb, le-ltb}
use Rattle.std.specs.Prelude.{Err, Result, Ok}
use lib.Seq.{sets, sets-eq}
use Rattle.refusal.specs.declared.Refusal.{Refusal}
use Rattle.refusal.specs.Numbers.{numbered}
use Rattle.refusal.specs.Ladder.{rising}
use Rattle.message.specs.declared.Message.{Message}
use Rattle.message.specs.Layout.{message_bytes, well_formed, bytes_of}
use Rattle.message.specs.Packing.{pack_ladder, pack_answer, pack_leaves}
use Rattle.message.proofs.RoundTrip.{packed_length}

-- the ladder stands in the table's order
pub pack_rising : (message : Message) (out : List ℕ) → rising 0 (pack_ladder message out) ≡ true
pack_rising message out = refl

-- an answer, and what it leaves
abbrev pub Packs : Message → List ℕ → Result (Unit {0}) Refusal → List ℕ → Type 0
Packs message out answer after = (answer ≡ pack_answer message out) × (after ≡ pack_leaves message out)

module _ (message : Message) (out : List ℕ) where
  pub malformed : well_formed message ≡ false → Packs message out (Err (numbered 9)) out
  unfolding pack_answer pack_leaves
  malformed fine = (rw fine, rw fine)

  pub short : well_formed message ≡ true → length out < message_bytes
      → Packs message out (Err (numbered 13)) out
  unfolding pack_answer pack_leaves
  short fine less = let t = lt-ltb (length out) message_bytes less in (rw (fine, t), rw (fine, t))

  pub packed : well_formed message ≡ true → message_bytes ≤ length out
      → Packs message out (Ok tt) (sets out 0 (bytes_of message))
  unfolding pack_answer pack_leaves
  packed fine long =
      let t = le-ltb (length out) message_bytes long in
      let eleven = packed_length message in
      let stored : sets out 0 (bytes_of message) ≡ bytes_of message ++ drop message_bytes out =
      sets-eq (bytes_of message) out 0 (omega arith)
      ∙ ap (λ (n : ℕ). bytes_of message ++ drop n out) (zero-add (length (bytes_of message)) ∙ eleven) in
      (rw (fine, t), rw (fine, t) stored)
