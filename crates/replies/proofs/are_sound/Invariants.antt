-- `are_sound`: the places before i have passed the test. Assumes nothing.
use Rattle.basics.proofs.Prelude.{◌≡◌, true, ◌&&◌, ltb}
use Rattle.register.proofs.Vocabulary.{all_below}
use Rattle.replies.specs.Sound.{is_sound_at}
use Rattle.replies.proofs.are_sound.Given as goal

abbrev pub invariant-loop-i : goal.invariant-loop-i
invariant-loop-i l =
    all_below (λ i. is_sound_at (ltb i l.n && l.reading) (ltb i l.n && l.storing) l.replies i) l.i ≡ true
