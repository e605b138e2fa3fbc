-- `are_sound`: the length, and then each place in turn, up to the first fault. Assumes nothing.
use Rattle.basics.proofs.Prelude.{◌≡◌, ap, ◌∙◌, Bool, ◌&&◌, List, length, ℕ, arith, ltb, eq-eqb, ne_eqb}
use Rattle.std.specs.Array.{IsWholeChunk}
use Rattle.basics.proofs.Tests.{none_passed, one_more, fails_here, all_passed}
use Rattle.register.proofs.Vocabulary.{all_below, most_servers}
use Rattle.replies.specs.Replies.{replies_length}
use Rattle.replies.specs.Sound.{is_sound_at, are_sound}
use Rattle.replies.proofs.are_sound.Goals as goal

-- of a memory that is as long as the array, the places are those of the array
by_places : (n : ℕ) (reading storing : Bool) {replies whole : List ℕ}
    → IsWholeChunk replies whole replies_length
    → all_below (λ i. is_sound_at (ltb i n && reading) (ltb i n && storing) whole i) most_servers
    ≡ are_sound n reading storing replies
unfolding are_sound
by_places n reading storing {replies} is =
    ap
    (λ (list : List ℕ). all_below (λ i. is_sound_at (ltb i n && reading) (ltb i n && storing) list i) most_servers)
    is.same
    ∙ rw (eq-eqb (length replies) replies_length is.long)

pub returns-in_default : goal.returns-in_default
unfolding are_sound
returns-in_default c = rw (ne_eqb (length c.args.replies.now) replies_length c.in_default.ensures.cases)

pub loop-i-init : goal.loop-i-init
loop-i-init c = none_passed _

pub loop-i-preserved : goal.loop-i-preserved
loop-i-preserved c = one_more _ _ c.loop-i.invariant c.is_sound_at.ensures c.if-not-is_sound_at.false

pub returns-then-not-is_sound_at : goal.returns-then-not-is_sound_at
returns-then-not-is_sound_at c =
    fails_here _ most_servers c.loop-i.i (omega arith) c.is_sound_at.ensures c.if-not-is_sound_at.true
    ∙ by_places c.args.n c.args.reading c.args.storing c.in-Some.ensures.cases

pub returns : goal.returns
returns c =
    all_passed _ (omega arith) c.loop-i.invariant
    ∙ by_places c.args.n c.args.reading c.args.storing c.in-Some.ensures.cases
