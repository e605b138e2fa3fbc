-- `server::added` meets its contract: the sender's bit is added to the readers (`ByKind.get_info`). Assumes
-- nothing.
use Rattle.server.proofs.ByKind.{get_info}
use Rattle.server.proofs.added.Goals as goal

pub returns : goal.returns
returns c = get_info c.args.server c.args.d c.requires.0 c.requires.1 c.requires.2 c.args.tag
