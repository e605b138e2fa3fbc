-- `server::after` meets its contract, kind by kind; what is none of the three is dropped (`ByKind.other`).
-- Assumes nothing.
use Rattle.server.proofs.ByKind.{other}
use Rattle.server.proofs.after.Goals as goal

pub returns-in_default-message-2 : goal.returns-in_default-message-2
returns-in_default-message-2 c =
    other c.args.server c.args.d c.requires.0 c.requires.1 c.requires.2 c.args.message
    c.in_default.not-GetInfo c.in_default-message.not-Done c.in_default-message-2.not-WriteInfo
