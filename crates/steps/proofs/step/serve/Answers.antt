-- `serve`: the rungs in turn, and what is left to refuse. Assumes nothing.
use Rattle.basics.proofs.Prelude.{arith}
use Rattle.channel.proofs.Passing.{passed, failed}
use Rattle.refusal.proofs.Ladders.{stop, next}
use Rattle.client.proofs.Ladders.{no, yes, rung}
use Rattle.steps.proofs.Rungs.{empty_rung, waiting_rung, one_waits, serve_refused, serve_on}
use Rattle.steps.proofs.Ways.{request_goes}
use Rattle.steps.proofs.step.serve.Goals as goal

pub returns-then-not-both_exist : goal.returns-then-not-both_exist
returns-then-not-both_exist c =
    serve_refused _ _ _ _ _ _ _ (stop (rung _ _ _ c.both_exist.ensures.is (no c.if-not-both_exist.true)))

pub returns-then-has : goal.returns-then-has
returns-then-has c =
    serve_refused _ _ _ _ _ _ _
    (next (rung _ _ _ c.both_exist.ensures.is (yes c.if-not-both_exist.false)) (stop (passed c.has.ensures c.if-has.true)))

pub returns-then-count-eq0 : goal.returns-then-count-eq0
returns-then-count-eq0 c =
    serve_refused _ _ _ _ _ _ _
    (next (rung _ _ _ c.both_exist.ensures.is (yes c.if-not-both_exist.false))
    (next (failed c.has.ensures c.if-has.false)
    (stop (empty_rung _ _ _ _ c.count.ensures c.up.ensures c.if-count-eq0.true))))

pub serve_oldest-requires-clause-goes_up : goal.serve_oldest-requires-clause-goes_up
serve_oldest-requires-clause-goes_up c =
    let there = c.both_exist.ensures.there c.if-not-both_exist.false in
    request_goes c.args.slots.now c.requires.ways c.args.d c.args.k (omega (arith, there))
    (omega (arith, there)) (omega (arith, there)) (omega (arith, there))
    (one_waits _ _ _ _ c.count.ensures c.up.ensures c.if-count-eq0.false)

pub returns : goal.returns
returns c =
    serve_on c.args.known.settings c.args.stopped c.args.servers.now c.args.slots.now c.args.k c.args.d _
    c.serve_oldest.ensures (rung _ _ _ c.both_exist.ensures.is (yes c.if-not-both_exist.false))
    (failed c.has.ensures c.if-has.false)
    (waiting_rung _ _ _ _ c.count.ensures c.up.ensures c.if-count-eq0.false)
