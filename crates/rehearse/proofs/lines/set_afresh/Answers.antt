-- `set_afresh`: by whether the setup is accepted.
-- Assumes nothing.
use Rattle.basics.proofs.Prelude.{refl, sym}
use Rattle.system.proofs.SetupLaws.{set_up_answer, set_up_stored, set_up_kept}
use Rattle.rehearse.proofs.Obeying.{obeys_set, obeys_refused}
use Rattle.rehearse.proofs.lines.set_afresh.Goals as goal

pub returns-in-Ok : goal.returns-in-Ok
returns-in-Ok c =
    let done = c.in-Ok.ensures in
    λ number. obeys_set _ _ _ _ number _ _ _ _ _ (sym (set_up_answer _ _ _ _ _ _ _ _ done))
    (set_up_stored _ _ _ _ _ _ _ _ done _ refl)

pub returns-in-Err : goal.returns-in-Err
returns-in-Err c =
    let done = c.in-Err.ensures in
    λ number. obeys_refused _ _ _ _ number _ _ _ _ _ (sym (set_up_answer _ _ _ _ _ _ _ _ done))
    (set_up_kept _ _ _ _ _ _ _ _ done _ refl)
