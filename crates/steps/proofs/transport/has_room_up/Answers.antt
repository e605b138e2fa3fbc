-- `has_room_up`: the loop has the answer for the channels that it passed, and all 13 tell whether there is
-- room. Assumes nothing.
use Rattle.basics.proofs.Prelude.{◌≡◌, refl, ap, ◌∙◌, ℕ, ◌+◌, arith, leb}
use Rattle.register.proofs.Vocabulary.{all_below, capacity, most_servers}
use Rattle.channel.specs.Memory.{count_at}
use Rattle.steps.proofs.Fitting.{joined}
use Rattle.steps.proofs.Spare.{room_on_all}
use Rattle.steps.proofs.transport.has_room_up.Goals as goal

pub loop-j-init : goal.loop-j-init
unfolding all_below
loop-j-init c = refl

pub loop-j-preserved : goal.loop-j-preserved
loop-j-preserved c =
    let a = c.args in
    let l = c.loop-j in
    joined _ l.j l.over (c.count.result + a.more) l.invariant
    (ap (λ (n : ℕ). leb (n + a.more) capacity) (c.count.ensures ∙ ap (count_at a.slots.now) c.up.ensures))

pub returns : goal.returns
returns c =
    let a = c.args in
    let last : c.loop-j.j ≡ most_servers = omega arith in
    c.loop-j.invariant ∙ ap (all_below _) last
    ∙ room_on_all a.known.settings a.slots.now a.i a.more a.known.few_servers c.requires.0 c.requires.1
    c.requires.3
