-- `main`: between two turns the program is where the definition of its turns has it (`Between`).
-- Assumes nothing.
use Rattle.rehearse.proofs.Between.{Between}
use Rattle.rehearse.proofs.main.Given as goal

abbrev pub invariant-loop : goal.invariant-loop
invariant-loop l = Between l.turn l.state.servers l.state.clients l.state.slots l.input l.have l.out
