-- `server::removed` meets its contract: the sender's bit is removed from the readers (`ByKind.done`). Assumes
-- nothing.
use Rattle.basics.proofs.Prelude.{arith}
use Rattle.server.proofs.ByKind.{done}
use Rattle.server.proofs.Sets.{bit_lt}
use Rattle.server.proofs.Views.{few}
use Rattle.server.proofs.removed.Goals as goal

pub overflow_sub-others : goal.overflow_sub-others
overflow_sub-others c =
    let server = c.args.server in
    omega (
      arith,
      bit_lt server.readers c.args.d (few server c.requires.0) c.requires.1 c.requires.2,
    )

pub returns : goal.returns
returns c = done c.args.server c.args.d c.requires.0 c.requires.1 c.requires.2
