-- `verdict_on`: by the answer of `days_left`, as the definition goes. The days left are read back from their
-- 32 bits.
-- Assumes nothing.
use Rattle.basics.proofs.Prelude.{sym, ap, ◌∙◌, rules}
use Rattle.std.proofs.lemmas.Result.{err_from_is_err_and}
use Rattle.std.specs.Prelude.{ℤ, Ok}
use mir.Syntax.{w32}
use Rattle.std.proofs.lemmas.Int.{to_z-of_z}
use Rattle.licence.specs.declared.Fields.{Fields}
use Rattle.licence.specs.Verdict.{verdict_by, verdict_of}
use Rattle.licence.proofs.verdict_on.Goals as goal

pub returns : goal.returns
unfolding verdict_of
returns c =
    rw (sym c.days_left.ensures ∙ c.in_ok-left.was)
    (ap Ok (c.judge.ensures
    ∙ ap (λ (z : ℤ). verdict_by z c.split.result.state) (to_z-of_z w32 c.in_ok-left.left (search rules))
    ∙ ap (λ (f : Fields). verdict_by c.in_ok-left.left f.state) c.split.ensures))

pub returns-in_err-left : goal.returns-in_err-left
unfolding verdict_of
returns-in_err-left c =
    let given = err_from_is_err_and c.from_residual.result c.from_residual.ensures.1 in
    rw (given.1, given.2, sym c.days_left.ensures ∙ c.in_err-left.was)
