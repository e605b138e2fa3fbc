-- `is_well_formed`: tag and counter are tested, and 64 bits hold every pair.
use Rattle.basics.proofs.Prelude.{sym, ap, ◌∙◌, ◌&&◌, ◌^◌, arith, ltb, lt-ltb}
use mathlib.Core.Bool.{and-true}
use Rattle.message.specs.Layout.{tag_bits, tag_at, well_formed}
use Rattle.message.proofs.is_well_formed.Goals as goal

pub returns-in-Info : goal.returns-in-Info
unfolding well_formed
returns-in-Info c =
    let tag = c.in-Info.tag.0 in
    let pair = c.in-Info._pair.0 in
    sym (ap well_formed c.in-Info.is
    ∙ ap (ltb tag (2 ^ tag_bits) &&◌) (lt-ltb pair (2 ^ tag_at) (omega arith)) ∙ and-true _)

pub returns-in-WriteInfo : goal.returns-in-WriteInfo
unfolding well_formed
returns-in-WriteInfo c =
    sym (ap well_formed c.in-WriteInfo.is ∙ lt-ltb c.in-WriteInfo._pair.0 (2 ^ tag_at) (omega arith))

pub returns-in-Fwd : goal.returns-in-Fwd
unfolding well_formed
returns-in-Fwd c =
    sym (ap well_formed c.in-Fwd.is ∙ lt-ltb c.in-Fwd._pair.0 (2 ^ tag_at) (omega arith))

pub returns-in-GetInfo : goal.returns-in-GetInfo
unfolding well_formed
returns-in-GetInfo c = sym (ap well_formed c.in-GetInfo.is)

pub returns-in-Done : goal.returns-in-Done
unfolding well_formed
returns-in-Done c = sym (ap well_formed c.in-Done.is)

pub returns-in-WriteAck : goal.returns-in-WriteAck
unfolding well_formed
returns-in-WriteAck c = sym (ap well_formed c.in-WriteAck.is)
