-- `are_marks_fine`: the chain tests each mark. Assumes nothing.
use Rattle.std.proofs.Common.{rules, tests}
use Rattle.basics.proofs.Chains.{all_over}
use Rattle.register.proofs.Vocabulary.{most_servers}
use Rattle.state.specs.Sound.{is_mark_fine}
use Rattle.state.proofs.sound.are_marks_fine.Goals as goal

pub returns : goal.returns
returns c =
    all_over (is_mark_fine c.args.settings) most_servers _ _ _ c.all.ensures.ran (λ x b q k. search (rules, tests))
