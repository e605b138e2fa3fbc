-- `info`: dropped unless it is taken; otherwise the timestamp and the pair are stored.
-- Assumes nothing.
use Rattle.basics.proofs.Prelude.{sym, ◌∙◌}
use Rattle.client.specs.Collecting.{is_collected}
use Rattle.client.proofs.Shown.{place, at_most}
use Rattle.client.proofs.Taking.{not_collected, noted_padded, info_collected}
use Rattle.client.proofs.info.Goals as goal

pub takes_info-requires : goal.takes_info-requires
takes_info-requires c = search at_most

pub returns-then-not-takes_info : goal.returns-then-not-takes_info
unfolding is_collected
returns-then-not-takes_info c =
    not_collected _ _ _ _ (sym c.takes_info.ensures ∙ c.if-not-takes_info.true) c.requires.0

pub note-requires : goal.note-requires
note-requires c = search place

pub insert-requires : goal.insert-requires
insert-requires c = (search place, search noted_padded)

pub returns : goal.returns
returns c = search info_collected
