-- `server::replaced` meets its contract: the higher pair is the model's (`ByKind.write_info`). Assumes
-- nothing.
use Rattle.server.proofs.ByKind.{write_info}
use Rattle.server.proofs.replaced.Goals as goal

pub returns : goal.returns
returns c d =
    write_info c.args.server c.requires d c.args.pair c.higher-kept.result c.higher-kept.ensures
