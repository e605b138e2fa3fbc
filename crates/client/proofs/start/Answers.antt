-- `start`: the refusals in order; otherwise the start.
-- Assumes nothing.
use Rattle.basics.proofs.Prelude.{refl}
use Rattle.refusal.proofs.Ladders.{stop, next, end}
use Rattle.client.proofs.Ladders.{no, yes, rung, idle_rung, reads_rung, long}
use Rattle.client.proofs.Ladders.{start_refused, start_done}
use Rattle.client.proofs.start.Goals as goal

pub returns-then-not-is_sound : goal.returns-then-not-is_sound
returns-then-not-is_sound c =
    let a = c.args in
    start_refused a.number a.n a.f a.memory.now a.phase a.licensed _
    (stop (rung _ _ _ c.is_sound.ensures (no c.if-not-is_sound.true)))

pub returns-then-not-is_up_to : goal.returns-then-not-is_up_to
returns-then-not-is_up_to c =
    let a = c.args in
    start_refused a.number a.n a.f a.memory.now a.phase a.licensed _
    (next (rung _ _ _ c.is_sound.ensures (yes c.if-not-is_sound.false))
    (stop (rung _ _ _ c.is_up_to.ensures (no c.if-not-is_up_to.true))))

pub load-client-requires : goal.load-client-requires
load-client-requires c = long _ _ _ _ c.is_sound.ensures c.if-not-is_sound.false

pub returns-then-not-is_idle : goal.returns-then-not-is_idle
returns-then-not-is_idle c =
    let a = c.args in
    start_refused a.number a.n a.f a.memory.now a.phase a.licensed _
    (next (rung _ _ _ c.is_sound.ensures (yes c.if-not-is_sound.false))
    (next (rung _ _ _ c.is_up_to.ensures (yes c.if-not-is_up_to.false))
    (next refl
    (stop (idle_rung _ _ _ _ a.memory.now _ _ c.load-client.ensures c.is_idle.ensures (no c.if-not-is_idle.true))))))

pub returns-then-not-licensed : goal.returns-then-not-licensed
returns-then-not-licensed c =
    let a = c.args in
    start_refused a.number a.n a.f a.memory.now a.phase a.licensed _
    (next (rung _ _ _ c.is_sound.ensures (yes c.if-not-is_sound.false))
    (next (rung _ _ _ c.is_up_to.ensures (yes c.if-not-is_up_to.false))
    (next refl
    (next (idle_rung _ _ _ _ a.memory.now _ _ c.load-client.ensures c.is_idle.ensures (yes c.if-not-is_idle.false))
    (stop (no c.if-not-licensed.true))))))

pub returns-then-is_last_read : goal.returns-then-is_last_read
returns-then-is_last_read c =
    let a = c.args in
    start_refused a.number a.n a.f a.memory.now a.phase a.licensed _
    (next (rung _ _ _ c.is_sound.ensures (yes c.if-not-is_sound.false))
    (next (rung _ _ _ c.is_up_to.ensures (yes c.if-not-is_up_to.false))
    (next refl
    (next (idle_rung _ _ _ _ a.memory.now _ _ c.load-client.ensures c.is_idle.ensures (yes c.if-not-is_idle.false))
    (next (yes c.if-not-licensed.false)
    (stop (reads_rung _ _ _ _ a.memory.now _ _ c.load-client.ensures c.is_last_read.ensures c.if-is_last_read.true)))))))

pub returns : goal.returns
returns c =
    let a = c.args in
    start_done a.number a.n a.f a.memory.now a.phase a.licensed _ c.begin.ensures
    (next (rung _ _ _ c.is_sound.ensures (yes c.if-not-is_sound.false))
    (next (rung _ _ _ c.is_up_to.ensures (yes c.if-not-is_up_to.false))
    (next refl
    (next (idle_rung _ _ _ _ a.memory.now _ _ c.load-client.ensures c.is_idle.ensures (yes c.if-not-is_idle.false))
    (next (yes c.if-not-licensed.false)
    (next (reads_rung _ _ _ _ a.memory.now _ _ c.load-client.ensures c.is_last_read.ensures c.if-is_last_read.false)
    (next refl end)))))))
