-- `at_most`: the number read at place i is that of the timestamp noted there. Assumes nothing.
use Rattle.basics.proofs.Prelude.{◌≡◌, sym, ap, ◌∙◌, suc, arith, rules}
use Rattle.register.proofs.Vocabulary.{is_at_most}
use Rattle.replies.specs.Replies.{note_at, note_of, noted_in}
use Rattle.replies.proofs.Places.{noted_at}
use Rattle.replies.proofs.at_most.Goals as goal

pub returns : goal.returns
returns c =
    let replies = c.args.replies.now in
    let stamp = c.args.stamp.0 in
    c.count_where.ensures (λ i. is_at_most stamp (noted_in replies (suc i)))
    (λ i answer less gives. let e : answer ≡ is_at_most stamp (note_of (note_at replies i)) = search rules in
    e ∙ ap (is_at_most stamp) (sym (noted_at replies i (omega arith))))
