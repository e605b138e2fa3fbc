-- `is_licence`: the limit first, then the fields that `split` gives.
-- Assumes nothing.
use Rattle.basics.proofs.Prelude.{ap, ◌∙◌, ◌^◌, arith, lt-ltb, le-ltb}
use Rattle.licence.specs.Entry.{entry_bits, is_licensed, is_licence}
use Rattle.licence.proofs.is_licence.Goals as goal

pub returns-then-entry-gt-LARGEST : goal.returns-then-entry-gt-LARGEST
unfolding is_licence
returns-then-entry-gt-LARGEST c = simp (le-ltb c.args.entry (2 ^ entry_bits) (omega arith))

pub returns : goal.returns
unfolding is_licence
returns c =
    simp (lt-ltb c.args.entry (2 ^ entry_bits) (omega arith))
    (c.is_licensed.ensures ∙ ap is_licensed c.split.ensures)
