-- `take`: the refusals in order; otherwise what `take_message` does.
-- Assumes nothing.
use Rattle.refusal.proofs.Ladders.{stop, next, end}
use Rattle.client.proofs.Ladders.{no, yes, rung, no_client, server_rung, malformed_rung, reply_rung, long}
use Rattle.client.proofs.Ladders.{received_as_lem, take_refused, take_done}
use Rattle.client.proofs.take.Goals as goal

pub returns-then-not-is_sound : goal.returns-then-not-is_sound
returns-then-not-is_sound c =
    let a = c.args in
    take_refused a.number a.n a.f a.memory.now a.k a.bytes.now _
    (stop (rung _ _ _ c.is_sound.ensures (no c.if-not-is_sound.true)))

pub returns-then-not-is_up_to : goal.returns-then-not-is_up_to
returns-then-not-is_up_to c =
    let a = c.args in
    take_refused a.number a.n a.f a.memory.now a.k a.bytes.now _
    (next (rung _ _ _ c.is_sound.ensures (yes c.if-not-is_sound.false))
    (stop (no_client _ a.number a.n a.k c.is_up_to.ensures c.if-not-is_up_to.true)))

pub returns-then-not-is_up_to-2 : goal.returns-then-not-is_up_to-2
returns-then-not-is_up_to-2 c =
    let a = c.args in
    take_refused a.number a.n a.f a.memory.now a.k a.bytes.now _
    (next (rung _ _ _ c.is_sound.ensures (yes c.if-not-is_sound.false))
    (stop (server_rung _ a.number a.n a.k c.is_up_to.ensures c.if-not-is_up_to.false _ c.is_up_to-2.ensures _
    (no c.if-not-is_up_to-2.true))))

pub returns-in_default : goal.returns-in_default
returns-in_default c =
    let a = c.args in
    take_refused a.number a.n a.f a.memory.now a.k a.bytes.now _
    (next (rung _ _ _ c.is_sound.ensures (yes c.if-not-is_sound.false))
    (next (server_rung _ a.number a.n a.k c.is_up_to.ensures c.if-not-is_up_to.false _ c.is_up_to-2.ensures _
    (yes c.if-not-is_up_to-2.false))
    (stop (search malformed_rung))))

pub returns-then-not-is_reply : goal.returns-then-not-is_reply
returns-then-not-is_reply c =
    let a = c.args in
    take_refused a.number a.n a.f a.memory.now a.k a.bytes.now _
    (next (rung _ _ _ c.is_sound.ensures (yes c.if-not-is_sound.false))
    (next (server_rung _ a.number a.n a.k c.is_up_to.ensures c.if-not-is_up_to.false _ c.is_up_to-2.ensures _
    (yes c.if-not-is_up_to-2.false))
    (stop (reply_rung _ a.bytes.now c.unpack.ensures _ _ _ c.in-Ok.is c.is_reply.ensures (no c.if-not-is_reply.true)))))

pub load-client-requires : goal.load-client-requires
load-client-requires c = long _ _ _ _ c.is_sound.ensures c.if-not-is_sound.false

pub returns : goal.returns
returns c =
    let a = c.args in
    take_done a.number a.n a.f a.memory.now a.k a.bytes.now _ (search received_as_lem)
    (next (rung _ _ _ c.is_sound.ensures (yes c.if-not-is_sound.false))
    (next (server_rung _ a.number a.n a.k c.is_up_to.ensures c.if-not-is_up_to.false _ c.is_up_to-2.ensures _
    (yes c.if-not-is_up_to-2.false))
    (next (reply_rung _ a.bytes.now c.unpack.ensures _ _ _ c.in-Ok.is c.is_reply.ensures (yes c.if-not-is_reply.false)) end)))
