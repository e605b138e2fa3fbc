-- `size_of`: the number that stands for the size, or four where it is more.
-- Assumes nothing.
use Rattle.basics.proofs.Prelude.{sym, arith, rules}
use Rattle.replies.proofs.Places.{size_below, size_full}
use Rattle.replies.proofs.size_of.Goals as goal

pub returns-then-size : goal.returns-then-size
returns-then-size c = (sym (size_below _ _ (search rules) (search rules) (omega arith)), omega arith)

pub returns-else-size : goal.returns-else-size
returns-else-size c = (sym (size_full _ _ (search rules) (search rules) (omega arith)), omega arith)
