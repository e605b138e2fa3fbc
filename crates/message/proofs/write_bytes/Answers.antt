-- `write_bytes`: what is written and the bytes of the rest, written behind it, are all bytes written.
--
-- The first byte of the rest is the one that a turn writes, so a turn changes nothing of that (`turn`).
use Rattle.basics.proofs.Prelude.{◌≡◌, sym, ap, ◌∙◌, List, set, ℕ, suc, ◌+◌, ◌-◌}
use Rattle.basics.proofs.Prelude.{◌*◌, ◌/◌, ◌%◌, ◌^◌, arith}
use lib.Seq.{sets}
use Rattle.basics.specs.Bytes.{big_endian}
use Rattle.basics.proofs.Bytes.{pow_256}
use Rattle.message.proofs.write_bytes.Goals as goal

turn : (number k : ℕ) (out : List ℕ) (at i count byte : ℕ) → byte ≡ number / 2 ^ (8 * k) % 256
    → count - i ≡ suc k → count - (i + 1) ≡ k
    → sets (set out (at + i) byte) (at + (i + 1)) (big_endian (count - (i + 1)) number)
    ≡ sets out (at + i) (big_endian (count - i) number)
unfolding big_endian
turn number k out at i count byte e h h' =
    let next : at + (i + 1) ≡ suc (at + i) = omega arith in rw (h, h', next, e, pow_256 k)

pub loop-i-preserved : goal.loop-i-preserved
loop-i-preserved c =
    turn _ _ _ _ _ _ _ c.byte.ensures (omega arith) (omega arith) ∙ c.loop-i.invariant

pub returns : goal.returns
unfolding big_endian
returns c =
    let l = c.loop-i in
    let none : c.args.count - l.i ≡ 0 = omega arith in
    sym (ap (λ (n : ℕ). sets l.out (c.args.at + l.i) (big_endian n c.args.number)) none) ∙ l.invariant
