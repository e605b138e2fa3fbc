-- `read_bytes`: the bytes read so far spell the number, and one byte more spells that * 256 + byte
-- (`spelt_more`).
use Rattle.basics.proofs.Prelude.{◌≡◌, take, drop, ◌^◌}
use Rattle.basics.proofs.Prelude.{◌<◌}
use Rattle.basics.specs.Bytes.{spelt}
use Rattle.message.proofs.read_bytes.Given as goal

abbrev pub invariant-loop-i : goal.invariant-loop-i
invariant-loop-i l =
    (l.number < 256 ^ l.i) × (l.number ≡ spelt 0 (take l.i (drop l.at l.bytes)))
