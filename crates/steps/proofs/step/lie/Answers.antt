-- `lie`: the rungs in turn, and the message sent. Assumes nothing.
use Rattle.basics.proofs.Prelude.{arith}
use Rattle.channel.proofs.Passing.{passed}
use Rattle.refusal.proofs.Ladders.{stop, next}
use Rattle.client.proofs.Ladders.{no, yes, rung}
use Rattle.steps.proofs.Lying.{reply_small}
use Rattle.steps.proofs.Rungs.{lie_refused, lie_on}
use Rattle.steps.proofs.step.lie.Goals as goal

pub returns-then-not-both_exist : goal.returns-then-not-both_exist
returns-then-not-both_exist c =
    lie_refused _ _ _ _ _ _ _ (stop (rung _ _ _ c.both_exist.ensures.is (no c.if-not-both_exist.true)))

pub returns-then-not-has : goal.returns-then-not-has
returns-then-not-has c =
    lie_refused _ _ _ _ _ _ _
    (next (rung _ _ _ c.both_exist.ensures.is (yes c.if-not-both_exist.false))
    (stop (rung _ _ _ c.has.ensures (no c.if-not-has.true))))

pub returns-then-not-is_reply : goal.returns-then-not-is_reply
returns-then-not-is_reply c =
    lie_refused _ _ _ _ _ _ _
    (next (rung _ _ _ c.both_exist.ensures.is (yes c.if-not-both_exist.false))
    (next (rung _ _ _ c.has.ensures (yes c.if-not-has.false))
    (stop (rung _ _ _ c.is_reply.ensures (no c.if-not-is_reply.true)))))

pub lie_with-requires : goal.lie_with-requires
lie_with-requires c =
    let there = c.both_exist.ensures.there c.if-not-both_exist.false in
    omega (arith, there, reply_small c.args.words (passed c.is_reply.ensures c.if-not-is_reply.false))

pub returns : goal.returns
returns c =
    let a = c.args in
    lie_on a.known.settings a.stopped a.slots.now a.k a.d a.words _ c.lie_with.ensures
    (rung _ _ _ c.both_exist.ensures.is (yes c.if-not-both_exist.false))
    (rung _ _ _ c.has.ensures (yes c.if-not-has.false))
    (rung _ _ _ c.is_reply.ensures (yes c.if-not-is_reply.false))
