-- `lacks`: the loop keeps whether none of the bytes that it has passed is the stop.
use Rattle.basics.proofs.Prelude.{refl, ap, Bool, not, ◌&&◌, get_or, ◌+◌, add-one, eqb}
use Rattle.basics.specs.Tests.{all_below}
use Rattle.script.proofs.lines.lacks.Goals as goal

pub loop-j-init : goal.loop-j-init
unfolding all_below
loop-j-init c = refl

pub loop-j-preserved : goal.loop-j-preserved
unfolding all_below
loop-j-preserved c =
    rw add-one
    (ap (λ (t : Bool). t && not (eqb (get_or c.args.text.now (c.args.at + c.loop-j.j) 0) c.args.stop))
    c.loop-j.invariant)
