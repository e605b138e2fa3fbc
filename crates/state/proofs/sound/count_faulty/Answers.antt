-- `count_faulty`: the test says that a server is marked. Assumes nothing.
use Rattle.basics.proofs.Prelude.{suc, rules}
use Rattle.basics.specs.BitSets.{contains}
use Rattle.state.proofs.sound.count_faulty.Goals as goal

pub returns : goal.returns
returns c =
    c.count_where.ensures (λ i. contains c.args.settings.faulty (suc i)) (λ i answer less gives. search rules)
