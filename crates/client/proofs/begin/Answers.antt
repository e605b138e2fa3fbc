-- `begin`: the head with the next read number and the phase is stored; the replies are empty before it and
-- after it.
-- Assumes nothing.
use Rattle.client.proofs.Lent.{memory_long}
use Rattle.client.proofs.Starting.{starts}
use Rattle.client.proofs.begin.Goals as goal

pub store-requires : goal.store-requires
store-requires c = search memory_long

pub returns : goal.returns
returns c = search starts
