-- `kept_day`: its two tests are those of an end on the last day of February.
-- Assumes nothing.
use Rattle.basics.proofs.Prelude.{◌∙◌, sym}
use Rattle.licence.proofs.Kept.{last_of, not_last, last_stays, day_stays}
use Rattle.licence.proofs.kept_day.Goals as goal

pub returns-then-fields-last_of_february : goal.returns-then-fields-last_of_february
returns-then-fields-last_of_february c =
    c.last_of_february-then-fields-last_of_february.ensures
    ∙ sym (last_stays _ _ (last_of _ (
      c.if-fields-eq-FEBRUARY.true,
      c.if-fields-last_of_february.true ∙ c.last_of_february.ensures,
    )))

pub returns : goal.returns
returns c =
    sym (day_stays _ _ (not_last _
    (λ p. elim c.else-fields-eq-FEBRUARY.branch [
      | goal.else-fields-eq-FEBRUARY-via-then-fields-eq-FEBRUARY+else-fields-last_of_february w ↦
          w.if-fields-last_of_february.false (p.1 ∙ sym w.last_of_february.ensures)
      | goal.else-fields-eq-FEBRUARY-via-else-fields-eq-FEBRUARY w ↦ w.if-fields-eq-FEBRUARY.false p.0
    ])))
