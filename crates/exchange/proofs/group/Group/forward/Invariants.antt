-- Each client stays the one that it is while the forwards are taken.
use Rattle.exchange.specs.Clients.{SameNumbers}
use Rattle.exchange.proofs.group.Group.forward.Given as goal

abbrev pub invariant-loop-client-2 : goal.invariant-loop-client-2
invariant-loop-client-2 g l = SameNumbers l.fn.self.clients l.client-items
