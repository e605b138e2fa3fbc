-- `all_have_room`: the loop has the answer for the channels that it passed. Assumes nothing.
use Rattle.register.proofs.Vocabulary.{all_below, contains, capacity}
use Rattle.basics.proofs.Prelude.{◌≡◌, refl, ap, ◌∙◌, ◌||◌, ℕ, suc, ◌+◌, ◌-◌, arith, leb}
use Rattle.channel.specs.Memory.{count_at}
use Rattle.state.specs.State.{down_index}
use Rattle.steps.specs.InMemory.{room_down}
use Rattle.steps.proofs.Fitting.{tested}
use Rattle.steps.proofs.transport.all_have_room.Goals as goal

pub loop-to-init : goal.loop-to-init
unfolding all_below
loop-to-init c pair = refl

pub loop-to-preserved : goal.loop-to-preserved
loop-to-preserved c pair =
    let a = c.args in
    let to = c.loop-to.to in
    tested _ to _ _ (c.loop-to.invariant pair)
    (c.has_room_from-fits.ensures
    ∙ ap (λ (n : ℕ). contains a.stopped (suc to)
    || leb (count_at a.slots.now (down_index to (a.link.server - 1)) + n) capacity)
    (c.count_to.ensures.0 pair))

pub returns : goal.returns
unfolding room_down
returns c pair =
    let link = c.args.link in
    let last : c.loop-to.to ≡ link.known.settings.clients = omega arith in
    let same : suc (link.client - 1) ≡ link.client = omega arith in
    rw (← last, ← same) (c.loop-to.invariant pair)
