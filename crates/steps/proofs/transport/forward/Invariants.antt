-- `forward`: the loop has sent to those readers that it passed. Assumes nothing.
use Rattle.register.proofs.Vocabulary.{contains, forwards}
use Rattle.basics.proofs.Prelude.{◌≡◌}
use Rattle.steps.specs.InMemory.{send_down}
use Rattle.steps.proofs.transport.forward.Given as goal

abbrev pub invariant-loop-i : goal.invariant-loop-i
invariant-loop-i l =
    l.slots ≡ send_down l.stopped l.initial.slots l.j (forwards (contains l.set) l.pair l.i)
