-- `better`: the set from place j on begins with the pair that is considered. Assumes nothing.
use Rattle.basics.proofs.Prelude.{◌≡◌, sym, ap, ◌∙◌, cond, List, Option, length, drop, get_or, ◌+◌, ◌-◌, ℕ}
use Rattle.basics.proofs.Prelude.{arith}
use Rattle.register.proofs.Vocabulary.{Pair, higher}
use Rattle.replies.specs.Replies.{pairs_of}
use Rattle.replies.specs.Loops.{counts_in, best_of}
use Rattle.replies.proofs.Places.{pairs_length, rest_at}
use Rattle.replies.proofs.Steps.{best_next, best_none}
use Rattle.replies.proofs.better.Goals as goal

pub loop-j-init : goal.loop-j-init
loop-j-init c =
    let numbers = c.pairs-set.result.now in
    sym (best_none (counts_in c.args.n c.args.f c.args.replies.now) (pairs_of numbers) c.args.best
    (length numbers) (sym (pairs_length numbers)))

pub loop-j-preserved : goal.loop-j-preserved
loop-j-preserved c =
    let test = counts_in c.args.n c.args.f c.args.replies.now in
    let numbers = c.pairs-set.result.now in
    let best = c.args.best in
    let j = c.loop-j.j - 1 in
    let other : Pair = record { 0 = get_or numbers j 0 } in
    let up : c.loop-j.j ≡ j + 1 = omega arith in
    c.consider-choice.ensures
    ∙ ap (λ (best : Option Pair). cond (test other) (higher other best) best)
    (c.loop-j.invariant ∙ ap (λ (j : ℕ). best_of test (drop j (pairs_of numbers)) best) up)
    ∙ sym (best_next test (pairs_of numbers) best j other (rest_at numbers j (omega arith)))

pub returns : goal.returns
returns c =
    let test = counts_in c.args.n c.args.f c.args.replies.now in
    let best = c.args.best in
    let end : c.loop-j.j ≡ 0 = omega arith in
    c.loop-j.invariant
    ∙ ap (λ (j : ℕ). best_of test (drop j (pairs_of c.pairs-set.result.now)) best) end
    ∙ ap (λ (pairs : List Pair). best_of test pairs best) c.pairs-set.ensures
