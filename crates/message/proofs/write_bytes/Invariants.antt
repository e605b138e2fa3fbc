-- `write_bytes`: what is written and the bytes of the rest, written behind it, are all bytes written.
--
-- The first byte of the rest is the one that a turn writes, so a turn changes nothing of that (`turn`).
use Rattle.basics.proofs.Prelude.{◌≡◌, ◌+◌, ◌-◌}
use lib.Seq.{sets}
use Rattle.basics.specs.Bytes.{big_endian}
use Rattle.message.proofs.write_bytes.Given as goal

abbrev pub invariant-loop-i : goal.invariant-loop-i
invariant-loop-i l =
    sets l.out (l.at + l.i) (big_endian (l.count - l.i) l.number)
    ≡ sets l.initial.out l.at (big_endian l.count l.number)
