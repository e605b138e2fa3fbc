-- `put_pair`: counter, client and entry, each behind a blank.
use Rattle.basics.proofs.Prelude.{◌≡◌, List, [], ◌∷◌, ℕ, arith}
use Prim.Native.Char.{code}
use Rattle.message.specs.declared.Entry.{Entry}
use Rattle.message.specs.declared.Pair.{Pair}
use Rattle.message.specs.declared.WriteCounter.{WriteCounter}
use Rattle.message.specs.Pair.{counter, client, entry}
use Rattle.script.specs.Numbers.{hex_entry}
use Rattle.script.specs.Printed.{spaced, pair_text}
use Rattle.script.specs.Writing.{Written}
use Rattle.script.proofs.Lengths.{spaced_short}
use Rattle.script.proofs.Writing.{keeps, then}
use Rattle.script.proofs.print.put_pair.Goals as goal

pub put_spaced-client_end-requires : goal.put_spaced-client_end-requires
put_spaced-client_end-requires c =
    let one = c.put_spaced-counter_end.ensures in
    omega (arith, spaced_short c.from.result, keeps one, one.ends)

pub put_text-next-requires : goal.put_text-next-requires
put_text-next-requires c =
    let one = c.put_spaced-counter_end.ensures in
    let two = c.put_spaced-client_end.ensures in
    omega (
      arith,
      spaced_short c.from.result,
      spaced_short c.client_of.result,
      keeps one,
      keeps two,
      one.ends,
      two.ends,
    )

pub put_digits-requires : goal.put_digits-requires
put_digits-requires c =
    let one = c.put_spaced-counter_end.ensures in
    let two = c.put_spaced-client_end.ensures in
    let three = c.put_text-next.ensures in
    omega (
      arith,
      spaced_short c.from.result,
      spaced_short c.client_of.result,
      keeps one,
      keeps two,
      keeps three,
      one.ends,
      two.ends,
      three.ends,
    )

-- the text by the pair's parts
whole : (pair : Pair) (its_counter : WriteCounter) (number d : ℕ) (its_entry : Entry)
    {b₀ b₁ b₂ b₃ b₄ : List ℕ} {at m₁ m₂ m₃ end : ℕ}
    → its_counter ≡ counter pair → number ≡ its_counter.0 → d ≡ client pair → its_entry ≡ entry pair
    → Written (spaced number) b₀ at m₁ b₁ → Written (spaced d) b₁ m₁ m₂ b₂
    → Written (code " " ∷ []) b₂ m₂ m₃ b₃ → Written (hex_entry its_entry.0) b₃ m₃ end b₄
    → Written (pair_text pair) b₀ at end b₄
whole pair its_counter number d its_entry is_counter is_number is_client is_entry one two blank last =
    rw (← is_entry, ← is_client, ← is_counter, ← is_number) (then (then one two) (then blank last))

pub returns : goal.returns
returns c =
    whole c.args.pair c.counter_of.result c.from.result c.client_of.result c.entry_of.result
    c.counter_of.ensures c.from.ensures c.client_of.ensures c.entry_of.ensures c.put_spaced-counter_end.ensures
    c.put_spaced-client_end.ensures c.put_text-next.ensures c.put_digits.ensures
