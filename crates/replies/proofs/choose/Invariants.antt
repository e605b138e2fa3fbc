-- `choose`: the choice is that of all sets passed. Assumes nothing.
use Rattle.basics.proofs.Prelude.{◌≡◌}
use Rattle.register.proofs.Vocabulary.{highest_of, all_pairs}
use Rattle.replies.specs.Replies.{set_in}
use Rattle.replies.specs.Loops.{counts_in}
use Rattle.replies.proofs.choose.Given as goal

abbrev pub invariant-loop-i : goal.invariant-loop-i
invariant-loop-i l =
    l.best ≡ highest_of (counts_in l.n l.f l.replies) (all_pairs (set_in l.replies) l.i)
