-- `take`: the rungs in turn, and what is left to refuse. Assumes nothing.
use Rattle.basics.proofs.Prelude.{arith}
use Rattle.channel.proofs.Passing.{passed, failed}
use Rattle.refusal.proofs.Ladders.{stop, next}
use Rattle.client.proofs.Ladders.{no, yes, rung}
use Rattle.steps.proofs.Rungs.{empty_rung, waiting_rung, one_waits, take_refused, take_on}
use Rattle.steps.proofs.Ways.{reply_goes}
use Rattle.steps.proofs.step.take.Goals as goal

pub returns-then-not-both_exist : goal.returns-then-not-both_exist
returns-then-not-both_exist c =
    take_refused _ _ _ _ _ _ (stop (rung _ _ _ c.both_exist.ensures.is (no c.if-not-both_exist.true)))

pub returns-then-has : goal.returns-then-has
returns-then-has c =
    take_refused _ _ _ _ _ _
    (next (rung _ _ _ c.both_exist.ensures.is (yes c.if-not-both_exist.false)) (stop (passed c.has.ensures c.if-has.true)))

pub returns-then-count-eq0 : goal.returns-then-count-eq0
returns-then-count-eq0 c =
    take_refused _ _ _ _ _ _
    (next (rung _ _ _ c.both_exist.ensures.is (yes c.if-not-both_exist.false))
    (next (failed c.has.ensures c.if-has.false)
    (stop (empty_rung _ _ _ _ c.count.ensures c.down.ensures c.if-count-eq0.true))))

pub take_oldest-requires-clause-goes_down : goal.take_oldest-requires-clause-goes_down
take_oldest-requires-clause-goes_down c =
    let there = c.both_exist.ensures.there c.if-not-both_exist.false in
    reply_goes c.args.slots.now c.requires.ways c.args.d c.args.k (omega (arith, there))
    (omega (arith, there)) (omega (arith, there)) (omega (arith, there))
    (one_waits _ _ _ _ c.count.ensures c.down.ensures c.if-count-eq0.false)

pub returns : goal.returns
returns c =
    take_on c.args.known.settings c.args.clients.now c.args.slots.now c.args.d c.args.k _
    c.take_oldest.ensures (rung _ _ _ c.both_exist.ensures.is (yes c.if-not-both_exist.false))
    (failed c.has.ensures c.if-has.false)
    (waiting_rung _ _ _ _ c.count.ensures c.down.ensures c.if-count-eq0.false)
