-- `choose`: with enough timestamps noted, the choice is that of all sets passed, one set more each turn.
-- Assumes nothing.
use Rattle.basics.proofs.Prelude.{◌≡◌, refl, sym, ap, ◌∙◌, Bool, not, List, ℕ, suc, ◌≤◌, zero-add}
use Rattle.basics.proofs.Prelude.{add-one, arith, eqb}
use Rattle.basics.specs.Counting.{count_below}
use Rattle.register.proofs.Vocabulary.{counted, enough, is_noted, highest_of, all_pairs, most_servers}
use Rattle.register.proofs.Vocabulary.{chosen}
use Rattle.replies.specs.Replies.{note_at, noted_in, set_in}
use Rattle.replies.specs.Loops.{is_used, counts_in, best_of}
use Rattle.replies.proofs.Places.{noted_at, noted_used}
use Rattle.replies.proofs.Steps.{count_same, best_more}
use Rattle.replies.proofs.choose.Goals as goal

-- whether enough are noted, by the numbers in use
spoken : (replies : List ℕ) (n f count : ℕ) (b : Bool) → n ≤ most_servers
    → count ≡ count_below (is_used replies 0) n → b ≡ enough n f count
    → enough n f (counted (λ k. is_noted (noted_in replies k)) n) ≡ b
spoken replies n f count b few used e =
    sym (e ∙ ap (enough n f)
    (used ∙ count_same (is_used replies 0) (λ i. is_noted (noted_in replies (suc i))) n
    (λ i less. ap (λ (place : ℕ). not (eqb (note_at replies place) 0)) (zero-add i)
    ∙ sym (ap is_noted (noted_at replies i (omega arith)) ∙ noted_used (note_at replies i)))))

pub returns-then-not-is_enough : goal.returns-then-not-is_enough
unfolding chosen
returns-then-not-is_enough c =
    rw (spoken c.args.replies.now c.args.n c.args.f _ _ c.requires c.used.ensures c.is_enough.ensures
    ∙ c.if-not-is_enough.true)

pub loop-i-init : goal.loop-i-init
unfolding highest_of all_pairs
loop-i-init c = refl

pub loop-i-preserved : goal.loop-i-preserved
loop-i-preserved c =
    let replies = c.args.replies.now in
    let test = counts_in c.args.n c.args.f replies in
    let sets = set_in replies in
    let i = c.loop-i.i in
    c.better-best.ensures ∙ ap (best_of test (sets (suc i))) c.loop-i.invariant
    ∙ sym (best_more test sets i)
    ∙ ap (λ (i : ℕ). highest_of test (all_pairs sets i)) (sym (add-one i))

pub returns : goal.returns
unfolding chosen
returns c =
    let replies = c.args.replies.now in
    let end : c.loop-i.i ≡ c.args.n = omega arith in
    rw (spoken replies c.args.n c.args.f _ _ c.requires c.used.ensures c.is_enough.ensures
    ∙ c.if-not-is_enough.false)
    (c.loop-i.invariant
    ∙ ap (λ (i : ℕ). highest_of (counts_in c.args.n c.args.f replies) (all_pairs (set_in replies) i)) end)
