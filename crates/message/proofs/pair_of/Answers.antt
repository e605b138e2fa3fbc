-- `pair_of`: each field joins what stands above it, where the bits are free.
use Rattle.basics.proofs.Prelude.{◌≡◌, ℕ, ◌+◌, ◌*◌, ◌%◌, ◌^◌, ◌<◌, arith}
use lib.Bits.{bit_or}
use lib.Dec.{lit≤}
use lib.Pow.{shl_exact}
use Rattle.basics.proofs.Bits.{or_field, or_adds}
use Rattle.message.specs.Pair.{counter_bits, client_bits, entry_bits, pair_bits, client_at, counter_at}
use Rattle.message.specs.Pair.{pair_of}
use Rattle.message.proofs.pair_of.Goals as goal

joined : (count d content : ℕ) → count < 2 ^ counter_bits → d < 2 ^ client_bits → content < 2 ^ entry_bits
    → bit_or (bit_or (count * 2 ^ counter_at % 2 ^ pair_bits) (d * 2 ^ client_at % 2 ^ pair_bits)) content
    ≡ count * 2 ^ counter_at + d * 2 ^ client_at + content
joined count d content h narrow small =
    rw (
      shl_exact counter_bits counter_at pair_bits h (lit≤ tt),
      or_field (count * 2 ^ counter_at) d client_bits client_at (omega arith) narrow (lit≤ tt),
      or_adds (count * 2 ^ counter_at + d * 2 ^ client_at) client_at content (omega arith) small,
    )

pub returns : goal.returns
unfolding pair_of
returns c =
    let a = c.args in
    let b = c.requires in
    let e = joined a.count.0 a.d a.content.0 b.0 b.1 b.2 in λ i. record { 0 = e i }
