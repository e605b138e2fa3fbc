-- `words_of`: a kind's head and low bits are those of `head_of` and `low_of`.
use Rattle.basics.proofs.Prelude.{refl, sym, ap, ◌∙◌, arith}
use native.Mathlib.Nat.{mod-lt, mod-eq_of_lt}
use lib.Bits.{and_mask}
use lib.Dec.{lit≤}
use lib.Pow.{pow_pos, shl_exact}
use Rattle.message.specs.Pair.{counter_bits, pair_bits, counter_at}
use Rattle.message.specs.Layout.{words_of}
use Rattle.message.proofs.Numbers.{words_are}
use Rattle.message.proofs.words_of.Goals as goal

pub returns-in-GetInfo : goal.returns-in-GetInfo
returns-in-GetInfo c = words_are _ _ _ c.head.ensures refl ∙ ap words_of (sym c.in-GetInfo.is)

pub returns-in-Info : goal.returns-in-Info
returns-in-Info c =
    words_are _ _ _ c.head-in-Info.ensures (sym (mod-eq_of_lt (omega arith)))
    ∙ ap words_of (sym c.in-Info.is)

pub returns-in-WriteInfo : goal.returns-in-WriteInfo
returns-in-WriteInfo c =
    words_are _ _ _ c.head-in-WriteInfo.ensures (sym (mod-eq_of_lt (omega arith)))
    ∙ ap words_of (sym c.in-WriteInfo.is)

pub returns-in-Fwd : goal.returns-in-Fwd
returns-in-Fwd c =
    words_are _ _ _ c.head-in-Fwd.ensures (sym (mod-eq_of_lt (omega arith)))
    ∙ ap words_of (sym c.in-Fwd.is)

pub returns-in-WriteAck : goal.returns-in-WriteAck
returns-in-WriteAck c =
    let n = c.in-WriteAck.count.0 in
    words_are _ _ _ c.head-in-WriteAck.ensures
    (rw (and_mask n counter_bits)
    (shl_exact counter_bits counter_at pair_bits (mod-lt n (pow_pos counter_bits)) (lit≤ tt)))
    ∙ ap words_of (sym c.in-WriteAck.is)

pub returns-in-Done : goal.returns-in-Done
returns-in-Done c = words_are _ _ _ c.head-in-Done.ensures refl ∙ ap words_of (sym c.in-Done.is)
