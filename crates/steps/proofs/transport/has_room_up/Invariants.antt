-- `has_room_up`: the loop has the answer for the channels that it passed, and all 13 tell whether there is
-- room. Assumes nothing.
use Rattle.basics.proofs.Prelude.{◌≡◌, ◌+◌, leb, ltb}
use Rattle.register.proofs.Vocabulary.{all_below, capacity}
use Rattle.channel.specs.Memory.{count_at}
use Rattle.state.specs.State.{up_index}
use Rattle.steps.proofs.Fitting.{limit}
use Rattle.steps.proofs.transport.has_room_up.Given as goal

abbrev pub invariant-loop-j : goal.invariant-loop-j
invariant-loop-j l =
    ltb l.over limit ≡ all_below (λ k. leb (count_at l.slots (up_index l.i k) + l.more) capacity) l.j
