-- `does_count`: the two thresholds on the two counts.
-- Assumes nothing.
use Rattle.basics.proofs.Prelude.{◌≡◌, sym, ap, ◌∙◌, Bool, List, ℕ}
use Rattle.register.proofs.Vocabulary.{Pair, counted, is_at_most, counts}
use Rattle.message.specs.Pair.{stamp}
use Rattle.register.specs.Thresholds.{not_old_by, valid_by}
use Rattle.register.specs.Client.{not_old, valid}
use Rattle.replies.specs.Replies.{noted_in}
use Rattle.replies.specs.Loops.{held_in}
use Rattle.replies.proofs.does_count.Goals as goal

-- the first threshold, on the timestamps at or below t, which is the pair's
not_old_is : (replies : List ℕ) (n f : ℕ) (pair : Pair) (t below : ℕ) (b : Bool) → t ≡ stamp pair
    → below ≡ counted (λ k. is_at_most t (noted_in replies k)) n → b ≡ not_old_by f below
    → not_old n f 0 (held_in replies) pair ≡ b
unfolding not_old
not_old_is replies n f pair t below b is_stamp count e =
    sym (e ∙ ap (not_old_by f)
    (count ∙ ap (λ (t : ℕ). counted (λ k. is_at_most t (noted_in replies k)) n) is_stamp))

pub returns-then-not-is_not_old : goal.returns-then-not-is_not_old
unfolding counts
returns-then-not-is_not_old c =
    rw (not_old_is c.args.replies.now c.args.n c.args.f c.args.pair _ _ _ c.stamp_of.ensures c.at_most.ensures
    c.is_not_old.ensures ∙ c.if-not-is_not_old.true)

pub returns : goal.returns
unfolding counts valid
returns c =
    rw (not_old_is c.args.replies.now c.args.n c.args.f c.args.pair _ _ _ c.stamp_of.ensures c.at_most.ensures
    c.is_not_old.ensures ∙ c.if-not-is_not_old.false)
    (c.is_valid.ensures ∙ ap (valid_by c.args.f) c.holders.ensures)
