-- `join`: the fields of a licence are within their widths, as `packed` asks.
-- Assumes nothing.
use Rattle.basics.proofs.Prelude.{sym, ap, ◌∙◌, rules}
use Rattle.std.specs.Prelude.{Ok}
use Rattle.licence.specs.Entry.{joined_of}
use Rattle.licence.proofs.Licensed.{narrow}
use Rattle.licence.proofs.join.Goals as goal

pub returns-then-not-is_licensed : goal.returns-then-not-is_licensed
unfolding joined_of
returns-then-not-is_licensed c = simp (sym c.is_licensed.ensures ∙ c.if-not-is_licensed.true)

pub packed-requires : goal.packed-requires
packed-requires c = narrow c.args.fields (sym c.is_licensed.ensures ∙ c.if-not-is_licensed.false) (search rules)

pub returns : goal.returns
unfolding joined_of
returns c =
    simp (sym c.is_licensed.ensures ∙ c.if-not-is_licensed.false) (ap Ok c.packed.ensures)
