-- `better`: from the last pair of the set down, the choice is that of the pairs passed. Assumes nothing.
use Rattle.basics.proofs.Prelude.{◌≡◌, drop}
use Rattle.replies.specs.Replies.{pairs_of}
use Rattle.replies.specs.Loops.{counts_in, best_of}
use Rattle.replies.proofs.better.Given as goal

abbrev pub invariant-loop-j : goal.invariant-loop-j
invariant-loop-j l =
    l.choice ≡ best_of (counts_in l.n l.f l.replies) (drop l.j (pairs_of l.set)) l.initial.choice
