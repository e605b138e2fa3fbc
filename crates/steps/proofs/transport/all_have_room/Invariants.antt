-- `all_have_room`: the loop has the answer for the channels that it passed. Assumes nothing.
use Rattle.register.proofs.Vocabulary.{all_below, contains, Pair, sent_to, capacity}
use Rattle.basics.proofs.Prelude.{◌≡◌, ◌||◌, length, suc, ◌+◌, leb}
use Rattle.channel.specs.Memory.{count_at}
use Rattle.server.specs.declared.Sends.TheVariants.{Forward}
use Rattle.server.specs.Serving.{sent_by}
use Rattle.state.specs.State.{down_index}
use Rattle.steps.proofs.transport.all_have_room.Given as goal

abbrev pub invariant-loop-to : goal.invariant-loop-to
invariant-loop-to l =
    (pair : Pair) → l.fits
    ≡ all_below
    (λ d. contains l.stopped (suc d)
    || leb (count_at l.slots (down_index d l.j) + length (sent_to (suc d) (sent_by (suc l.i) (Forward l.set pair))))
    capacity) l.to
