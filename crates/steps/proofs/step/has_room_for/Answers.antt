-- `has_room_for`: nothing is sent for an acknowledgement; two free slots are enough; else there is room for
-- as many messages as are sent. Assumes nothing.
use Rattle.basics.proofs.Prelude.{sym, ◌∙◌, ◌-◌, arith}
use Rattle.client.specs.Memory as client
use Rattle.steps.proofs.Receiving.{room_ack, room_enough}
use Rattle.steps.proofs.step.has_room_for.Goals as goal

pub returns-in-WriteAck : goal.returns-in-WriteAck
returns-in-WriteAck c =
    let a = c.args in
    let link = a.link in
    sym (room_ack link.known.settings a.slots.now (link.client - 1) link.client (client.view a.own.now)
    link.server a.message _ c.in-WriteAck.is link.known.few_servers c.requires.counts (omega arith))

pub returns-then-has_room_up : goal.returns-then-has_room_up
returns-then-has_room_up c =
    let a = c.args in
    let link = a.link in
    sym (room_enough link.known.settings a.slots.now (link.client - 1) link.client (client.view a.own.now)
    link.server a.message (sym c.has_room_up.ensures ∙ c.if-has_room_up.true))
