-- `forwarded`: dropped outside a reading phase; otherwise the pair is added.
-- Assumes nothing.
use Rattle.basics.proofs.Prelude.{sym, ◌∙◌}
use Rattle.client.specs.Collecting.{is_collected}
use Rattle.client.proofs.Shown.{place, padded_at}
use Rattle.client.proofs.Taking.{not_collected, fwd_collected}
use Rattle.client.proofs.forwarded.Goals as goal

pub returns-then-not-is_reading : goal.returns-then-not-is_reading
unfolding is_collected
returns-then-not-is_reading c =
    not_collected _ _ _ _ (sym c.is_reading.ensures ∙ c.if-not-is_reading.true) c.requires.0

pub insert-requires : goal.insert-requires
insert-requires c = search (place, padded_at)

pub returns : goal.returns
returns c = let reading = sym c.is_reading.ensures ∙ c.if-not-is_reading.false in search fwd_collected
