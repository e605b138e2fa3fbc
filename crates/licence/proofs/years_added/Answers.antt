-- `years_added`: the test for 0 is the definition's.
-- Assumes nothing.
use Rattle.basics.proofs.Prelude.{eq-eqb, ne_eqb}
use Rattle.licence.specs.Renewal.{span}
use Rattle.licence.proofs.years_added.Goals as goal

pub returns-then-years-eq0 : goal.returns-then-years-eq0
unfolding span
returns-then-years-eq0 c = simp (eq-eqb _ _ c.if-years-eq0.true)

pub returns-else-years-eq0 : goal.returns-else-years-eq0
unfolding span
returns-else-years-eq0 c = simp (ne_eqb _ _ c.if-years-eq0.false)
