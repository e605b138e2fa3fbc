-- `server::is_sound` meets its contract: the two tests in order. Assumes nothing.
use Rattle.basics.proofs.Prelude.{length, eq-eqb, ne_eqb}
use Rattle.server.specs.Memory.{server_length, is_sound}
use Rattle.server.proofs.is_sound.Goals as goal

pub returns-then-memory-ne-LENGTH : goal.returns-then-memory-ne-LENGTH
unfolding is_sound
returns-then-memory-ne-LENGTH c =
    rw (ne_eqb (length c.args.memory.now) server_length c.if-memory-ne-LENGTH.true)

pub returns : goal.returns
unfolding is_sound
returns c = rw (eq-eqb (length c.args.memory.now) server_length c.if-memory-ne-LENGTH.false)
