-- `empty_down`: the loop has emptied the channels from the servers that it passed. Assumes nothing.
use Rattle.basics.proofs.Prelude.{◌≡◌}
use Rattle.steps.specs.InMemory.{emptied}
use Rattle.steps.proofs.transport.empty_down.Given as goal

abbrev pub invariant-loop-j : goal.invariant-loop-j
invariant-loop-j l =
    l.slots ≡ emptied l.initial.slots l.i l.j
