-- `read_bytes`: the bytes read so far spell the number, and one byte more spells that * 256 + byte
-- (`spelt_more`).
use Rattle.basics.proofs.Prelude.{◌≡◌, refl, sym, ap, ◌∙◌, subst, get_or, take, drop, ℕ, ◌+◌, ◌*◌, ◌^◌}
use Rattle.basics.proofs.Prelude.{◌≤◌, ◌<◌, add-one, arith}
use native.Mathlib.Nat.{pow-succ', pow-le-pow_right}
use lib.Dec.{lit<}
use Rattle.basics.specs.Bytes.{spelt}
use Rattle.basics.proofs.Bytes.{spelt_more}
use Rattle.message.proofs.read_bytes.Goals as goal

-- a byte more is a factor of 256 more
more : (number byte i : ℕ) → number < 256 ^ i → byte < 256 → number * 256 + byte < 256 ^ (i + 1)
more number byte i h k = rw (add-one i, pow-succ' 256 i) (omega arith)

-- fewer than eight bytes leave room for one
room : (number i : ℕ) → i < 8 → number < 256 ^ i → number < 2 ^ 56
room number i h k =
    let p : 256 ^ i ≤ 256 ^ 7 = pow-le-pow_right (lit< tt) {j = 7} (omega arith) in omega arith

pub loop-i-init : goal.loop-i-init
unfolding spelt
loop-i-init c = (omega arith, refl)

pub push-number-requires : goal.push-number-requires
push-number-requires c = room c.loop-i.number c.loop-i.i (omega arith) c.loop-i.invariant.0

pub loop-i-preserved : goal.loop-i-preserved
loop-i-preserved c =
    let a = c.args in
    let l = c.loop-i in
    let b = get_or a.bytes.now (a.at + l.i) 0 in
    let byte : b < 256 = omega (arith, c.type_inv.bytes (a.at + l.i)) in (
      rw c.push-number.ensures (more l.number b l.i l.invariant.0 byte),
      c.push-number.ensures ∙ ap (λ (x : ℕ). x * 256 + b) l.invariant.1
          ∙ sym (rw (add-one l.i) (spelt_more a.bytes.now a.at l.i (omega arith))),
    )

pub returns : goal.returns
returns c =
    let l = c.loop-i in
    let all : l.i ≡ c.args.count = omega arith in
    let rest = drop c.args.at c.args.bytes.now in
    let both = subst (λ (n : ℕ). (l.number < 256 ^ n) × (l.number ≡ spelt 0 (take n rest))) all
    (l.invariant.0, l.invariant.1) in
    record { within = both.0; spelt = both.1 }
