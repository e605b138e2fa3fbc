-- `is_sound_head`: the tests in the definition's order; the first that fails decides.
-- Assumes nothing.
use Rattle.basics.proofs.Prelude.{sym, ◌∙◌, le-leb, lt-leb}
use Rattle.client.proofs.Facts.{last, fail, pass}
use Rattle.client.proofs.Heads.{head_of}
use Rattle.client.proofs.is_sound_head.Goals as goal

pub returns-then-code-gt-STORING : goal.returns-then-code-gt-STORING
returns-then-code-gt-STORING c = head_of _ _ _ (fail (lt-leb _ _ c.if-code-gt-STORING.true))

pub returns-then-not-is_sound_entry : goal.returns-then-not-is_sound_entry
returns-then-not-is_sound_entry c =
    head_of _ _ _
    (pass (le-leb _ _ c.if-code-gt-STORING.false)
    (fail (sym c.is_sound_entry.ensures ∙ c.if-not-is_sound_entry.true)))

pub returns : goal.returns
returns c =
    head_of _ _ _
    (pass (le-leb _ _ c.if-code-gt-STORING.false)
    (pass (sym c.is_sound_entry.ensures ∙ c.if-not-is_sound_entry.false)
    (last c.is_sound_counter.ensures)))
