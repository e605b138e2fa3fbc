-- `run_by`: a refused setup leaves everything; an accepted one is allowed, so its run is the history's, and
-- demand 3 holds of it.
-- Assumes nothing.
use Rattle.basics.proofs.Prelude.{refl, sym, ◌∙◌}
use Rattle.register.proofs.Theorem.{demand_three_lem}
use Rattle.state.proofs.SoundFacts.{allowed_of}
use Rattle.system.specs.Run.{how_many, steps_in}
use Rattle.system.proofs.SetupLaws.{allowed_set, set_up_answer, set_up_stored, set_up_kept}
use Rattle.system.proofs.run.run_by.Goals as goal

pub step_all-requires-clause-allowed : goal.step_all-requires-clause-allowed
step_all-requires-clause-allowed g c =
    -- the setup is accepted
    let e = sym (set_up_answer _ _ _ _ _ _ _ _ c.set_up-setup.ensures) ∙ c.in-Ok.is in
    allowed_of _ (allowed_set _ _ _ _ _ e)

pub step_all-requires-clause-new : goal.step_all-requires-clause-new
step_all-requires-clause-new g c = set_up_stored _ _ _ _ _ _ _ _ c.set_up-setup.ensures _ c.in-Ok.is

pub returns-in_default : goal.returns-in_default
returns-in_default g c =
    let is = set_up_answer _ _ _ _ _ _ _ _ c.set_up-setup.ensures in
    let kept = set_up_kept _ _ _ _ _ _ _ _ c.set_up-setup.ensures _ c.in_default.is in
    (is, rw (sym is ∙ c.in_default.is) (kept.0, kept.1, kept.2, refl))

pub returns-in-Ok : goal.returns-in-Ok
returns-in-Ok g c =
    let e = sym (set_up_answer _ _ _ _ _ _ _ _ c.set_up-setup.ensures) ∙ c.in-Ok.is in
    let many = how_many c.args.steps.now c.args.out.now in (
      sym e,
      rw e (
        c.step_all.ensures,
        demand_three_lem _ (allowed_set _ _ _ _ _ e).accepted (steps_in c.args.steps.now many),
      ),
    )
