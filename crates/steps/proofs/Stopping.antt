-- C: the set of the stopped with one more is the set with its bit.
--
-- That `|` adds a client to a set of six is a law of servers' sets, whose bit is one of eight; its bit of 64
-- is the same, tested for all six clients by one computation (`same_bits`).
-- Assumes nothing.
use Rattle.basics.proofs.Prelude.{◌≡◌, refl, sym, ap, ◌∙◌, Bool, true, false, cond, ◌||◌, ℕ, ◌-◌, ◌*◌, ◌%◌}
use Rattle.basics.proofs.Prelude.{◌^◌, ◌≤◌, ◌<◌, arith, eqb, eqb-true}
use lib.Bits.{bit_or}
use Rattle.register.proofs.Vocabulary.{all_below, update, contains, set_of, most_clients}
use Rattle.basics.proofs.Tests.{below}
use Rattle.server.proofs.Sets.{adds}

-- the bit of the client at place i
abbrev bit_at : ℕ → ℕ
bit_at i = 1 * 2 ^ i % 2 ^ 64

same_bits : all_below (λ i. eqb (bit_at i) (1 * 2 ^ i % 256)) most_clients ≡ true
unfolding all_below
same_bits = refl

pub either : (a b : Bool) → a || b ≡ cond a true b
either true b = refl
either false b = refl

pub one_more : (stopped d : ℕ) → stopped < 2 ^ most_clients → 1 ≤ d → d ≤ most_clients
    → bit_or stopped (bit_at (d - 1)) ≡ set_of (λ other. eqb d other || contains stopped other) most_clients
unfolding update
one_more stopped d small low high =
    let same : (λ (other : ℕ). eqb d other || contains stopped other)
    ≡ update (contains stopped) d true = λ i. λ other. either (eqb d other) (contains stopped other) i in
    ap (bit_or stopped) (eqb-true (bit_at (d - 1)) _
    (below (λ i. eqb (bit_at i) (1 * 2 ^ i % 256)) most_clients same_bits (d - 1) (omega arith)))
    ∙ sym (ap (λ (p : ℕ → Bool). set_of p most_clients) same ∙ adds stopped d small low high)
