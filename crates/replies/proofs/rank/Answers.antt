-- `rank`: the place of the first pair that is not below, or the end. Assumes nothing.
use Rattle.basics.proofs.Prelude.{ap, ◌∙◌, leb, rules}
use Rattle.std.proofs.lemmas.Iterator.{YieldsList-from_slice}
use Rattle.std.proofs.lemmas.Iterator.Search.{position_from_yields_List}
use Rattle.replies.specs.Loops.{rank_of}
use Rattle.replies.proofs.Insertion.{rank_at}
use Rattle.replies.proofs.rank.Goals as goal

pub returns : goal.returns
returns c =
    let numbers = c.pairs-set.result.now in
    rank_at c.args.pair numbers
    (position_from_yields_List (leb c.args.pair.0) _ _ _ c.position-at.ensures.ran
    (YieldsList-from_slice numbers c.iter.ensures.rest) (λ x b q k. search rules))
    c.unwrap_or.ensures
    ∙ ap (rank_of c.args.pair) c.pairs-set.ensures
