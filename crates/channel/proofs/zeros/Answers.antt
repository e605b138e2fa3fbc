-- `channel::zeros`: the fold joins the numbers of the part. Assumes nothing.
use Rattle.basics.proofs.Prelude.{◌∙◌, ap, ℕ, eqb, arith, rules}
use lib.Bits.{bit_or}
use Rattle.std.proofs.lemmas.Iterator.{YieldsList-from_slice}
use Rattle.std.proofs.lemmas.Iterator.Consumers.{fold_from_yields_List}
use Rattle.channel.proofs.Passing.{joined_zero}
use Rattle.channel.proofs.zeros.Goals as goal

pub returns : goal.returns
returns c =
    let whole =
    fold_from_yields_List _ bit_or 0 c.fold.result c.fold.ensures.ran
    (YieldsList-from_slice _ c.iter-all.ensures.rest)
    (λ a x b q k. search rules) in
    ap (λ (joined : ℕ). eqb joined 0) whole
    ∙ joined_zero c.args.slots.now c.args.at c.args.n _ (omega arith) (omega arith)
