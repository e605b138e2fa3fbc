-- `consider`: only a candidate above the choice that counts replaces it.
-- Assumes nothing.
use Rattle.basics.proofs.Prelude.{sym, ◌∙◌}
use Rattle.register.specs.Client.{higher}
use Rattle.replies.specs.Loops.{counts_in}
use Rattle.replies.proofs.Choosing.{above_replaces, other_leaves, either_way}
use Rattle.replies.proofs.consider.Goals as goal

pub returns-then-not-is_above : goal.returns-then-not-is_above
returns-then-not-is_above c =
    let best = c.args.best in
    sym (either_way (counts_in c.args.n c.args.f c.args.replies.now c.args.pair)
    (higher c.args.pair best) best
    (other_leaves c.args.pair best (sym c.is_above.ensures ∙ c.if-not-is_above.true)))

pub returns : goal.returns
returns c =
    rw (sym c.does_count.ensures ∙ c.if-not-does_count.false)
    (sym (above_replaces c.args.pair c.args.best
    (sym c.is_above.ensures ∙ c.if-not-is_above.false)))
