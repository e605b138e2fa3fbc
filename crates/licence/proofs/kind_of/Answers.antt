-- `kind_of`: the tests are the definition's, in its order.
-- Assumes nothing.
use Rattle.basics.proofs.Prelude.{sym, ◌∙◌, eq-eqb, ne_eqb}
use Rattle.licence.specs.Entry.{kind_of}
use Rattle.licence.proofs.kind_of.Goals as goal

pub returns-then-is_licence : goal.returns-then-is_licence
unfolding kind_of
returns-then-is_licence c = simp (sym c.is_licence.ensures ∙ c.if-is_licence.true)

pub returns-then-entry-eq-EMPTY : goal.returns-then-entry-eq-EMPTY
unfolding kind_of
returns-then-entry-eq-EMPTY c =
    simp (sym c.is_licence.ensures ∙ c.if-is_licence.false, eq-eqb c.args.entry 0 c.if-entry-eq-EMPTY.true)

pub returns : goal.returns
unfolding kind_of
returns c =
    simp (sym c.is_licence.ensures ∙ c.if-is_licence.false, ne_eqb c.args.entry 0 c.if-entry-eq-EMPTY.false)
