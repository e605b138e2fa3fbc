-- `channel::remove` meets its contract: shifted, zeroed, and the count lowered. Assumes nothing.
use Rattle.basics.proofs.Prelude.{arith, eq-eqb, ne_eqb}
use Rattle.channel.specs.Memory.{removed, count_at}
use Rattle.channel.proofs.remove.Goals as goal

pub returns-then-held-gt0 : goal.returns-then-held-gt0
unfolding removed
returns-then-held-gt0 c =
    let some = ne_eqb (count_at c.args.slots.now c.args.i) 0 (λ e. omega arith) in
    rw (some, c.zero.ensures, c.shift.ensures)

pub returns-else-held-gt0 : goal.returns-else-held-gt0
unfolding removed
returns-else-held-gt0 c = rw (eq-eqb (count_at c.args.slots.now c.args.i) 0 (omega arith))
