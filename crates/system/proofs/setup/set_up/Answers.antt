-- `set_up`: a refused setup stores nothing; a new state is what is stored of the new world.
-- Assumes nothing.
use Rattle.basics.proofs.Prelude.{sym, ◌∙◌}
use Rattle.std.proofs.lemmas.Result.{err_from_is_err_and}
use Rattle.system.specs.Setup.{set_up_by}
use Rattle.system.proofs.setup.set_up.Goals as goal

pub returns-in_err-settings : goal.returns-in_err-settings
unfolding set_up_by
returns-in_err-settings c =
    let given = err_from_is_err_and c.from_residual.result c.from_residual.ensures.1 in
    rw (sym c.settings_of.ensures ∙ c.in_err-settings.was, given.1, given.2)

pub returns : goal.returns
unfolding set_up_by
returns c =
    let new = c.new.ensures in
    rw (sym c.settings_of.ensures ∙ c.in_ok-settings.was, new.servers, new.clients, new.slots)
