-- `lie_with`: dropped, refused for want of room, or put. Assumes nothing.
use Rattle.register.proofs.Vocabulary.{capacity}
use Rattle.register.specs.declared.Answer.TheVariants.{Went}
use Rattle.basics.proofs.Prelude.{sym, ap, ◌∙◌, ℕ, ◌+◌, arith, leb}
use Rattle.std.specs.Prelude.{Ok}
use Rattle.channel.specs.Memory.{count_at, put_on}
use Rattle.channel.proofs.Passing.{failed}
use Rattle.steps.specs.InMemory.{placed}
use Rattle.steps.proofs.Lying.{own_words}
use Rattle.steps.proofs.step.lie_with.Goals as goal

pub returns : goal.returns
returns c =
    let a = c.args in
    let works = failed c.has.ensures c.if-has.false in
    let room = c.has_room.ensures ∙ ap (λ (n : ℕ). leb (count_at a.slots.now n + 1) capacity) c.down-to.ensures in
    rw (works, sym room ∙ c.if-not-has_room.false)
    (ap (placed (Ok Went))
    (c.put.ensures ∙ ap (λ (n : ℕ). put_on a.slots.now n a.words) c.down-to.ensures
    ∙ ap (put_on a.slots.now _) (own_words a.words c.requires (omega arith))))
