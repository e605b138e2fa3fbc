-- `step_all`: before step i the memory is that of the history's world i, and the answers up to it are
-- written. A step more is one turn (`RunLaws`).
-- Assumes nothing.
use Rattle.basics.proofs.Prelude.{arith}
use Rattle.state.proofs.SoundFacts.{allowed_facts}
use Rattle.system.proofs.RunLaws.{run_none, run_sound, run_whole, turn}
use Rattle.system.specs.Run.{how_many}
use Rattle.system.proofs.run.step_all.Goals as goal

pub loop-i-init : goal.loop-i-init
loop-i-init g c = run_none _ _ _ _ _ _ _ c.requires.new

pub make-answer-requires : goal.make-answer-requires
make-answer-requires g c =
    c.requires.makes.callable _ _ _
    (run_sound _ _ _ _ c.loop-i.i c.loop-i-test.true (allowed_facts _ c.requires.allowed) _ _ _ _ c.loop-i.invariant)

pub loop-i-preserved : goal.loop-i-preserved
loop-i-preserved g c =
    let allowed = allowed_facts _ c.requires.allowed in
    turn _ _ _ _ c.loop-i.i c.loop-i-test.true allowed _ _ _ _
    c.loop-i.invariant c.step_in.result c.step_in.ensures _ _ c.write_answer.ensures
    (c.requires.makes.makes _ _ _ _ _
    (run_sound _ _ _ _ c.loop-i.i c.loop-i-test.true allowed _ _ _ _ c.loop-i.invariant)
    c.make-answer.ensures)

pub returns : goal.returns
unfolding how_many
returns g c = run_whole _ _ _ _ _ _ (omega arith) c.min-many.ensures _ _ _ _ c.loop-i.invariant
