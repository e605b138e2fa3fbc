-- `takes_info`: the three tests in order.
-- Assumes nothing.
use Rattle.basics.proofs.Prelude.{sym, ◌∙◌, not-true, not-false}
use Rattle.client.proofs.Taking.{info_late, info_other, info_first}
use Rattle.client.proofs.takes_info.Goals as goal

pub returns-then-not-is_reading : goal.returns-then-not-is_reading
returns-then-not-is_reading c =
    let a = c.args in
    info_late a.client a.replies.now a.k a.tag (sym c.is_reading.ensures ∙ c.if-not-is_reading.true)

pub returns-then-ne : goal.returns-then-ne
returns-then-ne c =
    let a = c.args in
    info_other a.client a.replies.now a.k a.tag (sym c.is_reading.ensures ∙ c.if-not-is_reading.false)
    (not-true _ (sym c.ne.ensures ∙ c.if-ne.true))

pub returns : goal.returns
returns c =
    let a = c.args in
    info_first a.client a.replies.now a.k a.tag (sym c.is_reading.ensures ∙ c.if-not-is_reading.false)
    (not-false _ (sym c.ne.ensures ∙ c.if-ne.false)) _ c.is_noted.ensures c.requires.0
