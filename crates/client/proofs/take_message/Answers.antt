-- `take_message`: the replies are lent to the step and put back, and the head of the client after it is
-- stored.
-- Assumes nothing.
use Rattle.basics.proofs.Prelude.{arith}
use Rattle.client.proofs.Lent.{memory_long, last_lent, lent_sound, taken_in_memory}
use Rattle.client.proofs.take_message.Goals as goal

pub unreachable-requires : goal.unreachable-requires
unreachable-requires c =
    let long = memory_long c.args.client.n c.args.client.f c.args.memory.now c.requires.1 in
    let short = c.in_default.ensures.cases in omega arith

pub receive-step-requires : goal.receive-step-requires
receive-step-requires c =
    let memory = c.args.memory.now in
    let long = memory_long c.args.client.n c.args.client.f memory c.requires.1 in
    let lent = last_lent memory long _ c.in-Some.ensures.cases.1.same in search lent_sound

-- a slice keeps its length
pub store-requires : goal.store-requires
store-requires c =
    let long = memory_long c.args.client.n c.args.client.f c.args.memory.now c.requires.1 in omega arith

pub returns : goal.returns
returns c =
    let memory = c.args.memory.now in
    let long = memory_long c.args.client.n c.args.client.f memory c.requires.1 in
    let lent = last_lent memory long _ c.in-Some.ensures.cases.1.same in
    taken_in_memory c.args.client memory c.requires.0 c.requires.1 c.args.k c.args.message
    c.receive-step.result _ _ _
    lent c.receive-step.ensures c.store.ensures
