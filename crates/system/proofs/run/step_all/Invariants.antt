-- `step_all`: before step i the memory is that of the history's world i, and the answers up to it are
-- written. A step more is one turn (`RunLaws`).
-- Assumes nothing.

use Rattle.system.specs.Run.{Run}
use Rattle.system.proofs.run.step_all.Given as goal

abbrev pub invariant-loop-i : goal.invariant-loop-i
invariant-loop-i g l =
    Run l.settings l.steps l.initial.out l.many l.i l.state.servers l.state.clients l.state.slots l.out
