-- Packing into a lent buffer: what it answers and what it leaves there (01: refusals 9 and 13; 'Packing
-- writes only the first 11 bytes').
--
-- In order: the ladder of refusals; the answer; the buffer.
-- Assumes nothing.
use Rattle.std.specs.Prelude.{ℕ, not, List, [], ◌∷◌, ◌++◌, ltb, length, drop, Result}
use Rattle.std.specs.Prelude.{Option, None, Some}
use Rattle.refusal.specs.declared.Refusal.{Refusal}
use Rattle.refusal.specs.Ladder.{Rung, ◌whenever◌, lowest, or_refused}
use Rattle.message.specs.declared.Message.{Message}
use Rattle.message.specs.Layout.{message_bytes, well_formed, bytes_of}

-- 9 a field over its width, then 13 a buffer of fewer bytes
abbrev pub pack_ladder : Message → List ℕ → List Rung
pack_ladder message out =
    9 whenever not (well_formed message) ∷ 13 whenever ltb (length out) message_bytes ∷ []

-- packed, or refused 9, 'misprint', or 13, 'short sheet'
unfoldable pub pack_answer : Message → List ℕ → Result (Unit {0}) Refusal
pack_answer message out = or_refused (lowest (pack_ladder message out)) tt

-- the buffer: the message's bytes in front of what stood behind them, or, refused, what it was
abbrev pub kept : Option Refusal → List ℕ → List ℕ → List ℕ
kept None out bytes = bytes ++ drop message_bytes out
kept (Some why) out bytes = out

unfoldable pub pack_leaves : Message → List ℕ → List ℕ
pack_leaves message out = kept (lowest (pack_ladder message out)) out (bytes_of message)
