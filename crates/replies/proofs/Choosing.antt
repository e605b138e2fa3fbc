-- A candidate above the choice so far replaces it, and another changes nothing, whether or not it counts.
-- Assumes nothing.
use Rattle.basics.proofs.Prelude.{◌≡◌, refl, ap, Bool, true, false, cond, Option, None, Some, arith, ltb}
use Rattle.basics.proofs.Prelude.{ltb-true, ltb-false, le-ltb}
use Rattle.basics.proofs.Cases.{by_test, true_or_false}
use Rattle.register.proofs.Vocabulary.{Pair, higher}
use Rattle.message.proofs.Pairs.{same_number}
use Rattle.replies.specs.Loops.{is_above}

pub above_replaces : (pair : Pair) (best : Option Pair) → is_above pair best ≡ true
    → higher pair best ≡ Some pair
unfolding higher
above_replaces pair None e = refl
above_replaces pair (Some other) e =
    let h = ltb-true other.0 pair.0 e in rw (le-ltb pair.0 other.0 (omega arith))

pub other_leaves : (pair : Pair) (best : Option Pair) → is_above pair best ≡ false → higher pair best ≡ best
unfolding higher
other_leaves pair None e = absurd (true_or_false true refl e)
other_leaves pair (Some other) e =
    by_test (ltb pair.0 other.0) (λ t. rw t) (λ t. let h = ltb-false other.0 pair.0 e in
    let g = ltb-false pair.0 other.0 t in
    rw t (ap Some (same_number pair other (omega arith))))

pub either_way : {A : Type 0} (b : Bool) (x y : A) → x ≡ y → cond b x y ≡ y
either_way true x y e = e
either_way false x y e = refl
