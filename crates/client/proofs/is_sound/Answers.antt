-- `is_sound`: the tests in the definition's order; the first that fails decides.
-- Assumes nothing.
use Rattle.basics.proofs.Prelude.{sym, ◌∙◌, length, arith, eq-eqb, ne_eqb}
use Rattle.client.specs.Memory.{client_length}
use Rattle.client.proofs.Facts.{last, fail, pass}
use Rattle.client.proofs.Memory.{sound_by}
use Rattle.client.proofs.is_sound.Goals as goal

pub returns-then-not-are_servers_in_range : goal.returns-then-not-are_servers_in_range
returns-then-not-are_servers_in_range c =
    sound_by _ _ _ (fail (sym c.are_servers_in_range.ensures ∙ c.if-not-are_servers_in_range.true))

pub returns-then-memory-ne-LENGTH : goal.returns-then-memory-ne-LENGTH
returns-then-memory-ne-LENGTH c =
    sound_by _ _ _
    (pass (sym c.are_servers_in_range.ensures ∙ c.if-not-are_servers_in_range.false)
    (fail (ne_eqb _ _ c.if-memory-ne-LENGTH.true)))

pub returns-then-not-fits_read : goal.returns-then-not-fits_read
returns-then-not-fits_read c =
    sound_by _ _ _
    (pass (sym c.are_servers_in_range.ensures ∙ c.if-not-are_servers_in_range.false)
    (pass (eq-eqb (length c.args.memory.now) client_length (omega arith))
    (fail (sym c.fits_read.ensures ∙ c.if-not-fits_read.true))))

pub returns-then-not-is_sound_head : goal.returns-then-not-is_sound_head
returns-then-not-is_sound_head c =
    sound_by _ _ _
    (pass (sym c.are_servers_in_range.ensures ∙ c.if-not-are_servers_in_range.false)
    (pass (eq-eqb (length c.args.memory.now) client_length (omega arith))
    (pass (sym c.fits_read.ensures ∙ c.if-not-fits_read.false)
    (fail (sym c.is_sound_head.ensures ∙ c.if-not-is_sound_head.true)))))

pub returns : goal.returns
returns c =
    sound_by _ _ _
    (pass (sym c.are_servers_in_range.ensures ∙ c.if-not-are_servers_in_range.false)
    (pass (eq-eqb (length c.args.memory.now) client_length (omega arith))
    (pass (sym c.fits_read.ensures ∙ c.if-not-fits_read.false)
    (pass (sym c.is_sound_head.ensures ∙ c.if-not-is_sound_head.false)
    (last c.are_replies_sound.ensures)))))
