-- `empty_down`: the loop has emptied the channels from the servers that it passed. Assumes nothing.
use Rattle.basics.proofs.Prelude.{refl, ap, ◌∙◌, List, ℕ, add-one}
use Rattle.channel.specs.Memory.{cleared}
use Rattle.state.specs.State.{down_index}
use Rattle.steps.specs.InMemory.{emptied}
use Rattle.steps.proofs.transport.empty_down.Goals as goal

pub loop-j-init : goal.loop-j-init
unfolding emptied
loop-j-init c = refl

pub loop-j-preserved : goal.loop-j-preserved
unfolding emptied
loop-j-preserved c =
    rw (add-one c.loop-j.j)
    (c.clear.ensures ∙ ap (cleared c.loop-j.slots) c.down.ensures
    ∙ ap (λ (x : List ℕ). cleared x (down_index c.args.i c.loop-j.j)) c.loop-j.invariant)
