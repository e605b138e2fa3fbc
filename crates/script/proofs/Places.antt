-- The place of the first stop in a text.
--
-- In order: a search goes on where no stop is (`pass`, `pass_all`), and ends where one is (`stops`); the
-- bytes up to there and behind it.
-- Assumes nothing.
use Rattle.basics.proofs.Prelude.{◌≡◌, refl, ap, true, not, List, [], ◌∷◌, length, get_or, take}
use Rattle.basics.proofs.Prelude.{drop, ℕ, zero, suc, ◌+◌, ◌≤◌, ◌<◌, not-suc-le-zero, arith, eqb, eqb-false}
use Rattle.basics.proofs.Prelude.{eq-eqb, ne_eqb, not-true}
use Rattle.std.specs.Prelude.{Some, None}
use Prim.Native.Nat.{suc-le-suc}
use native.Mathlib.Nat.{le_of_suc-le-suc}
use lib.ListN.{length-take}
use Rattle.basics.specs.Tests.{all_below}
use Rattle.basics.proofs.Cases.{by_test, both}
use Rattle.script.specs.Lines.{up_to, behind}

-- a search at place i, with no stop before it
module _ (stop : ℕ) where
  -- it is not here: the search goes on
  pub pass : (text : List ℕ) (i : ℕ) → i < length text → i ≤ length (up_to stop text)
      → (get_or text i 0 ≡ stop → ⊥) → suc i ≤ length (up_to stop text)
  unfolding up_to
  pass [] i h before other = absurd (not-suc-le-zero h)
  pass (byte ∷ text) zero h before other = rw (ne_eqb byte stop other) (omega arith)
  pass (byte ∷ text) (suc i) h before other =
      by_test (eqb byte stop) (λ t. absurd (not-suc-le-zero (rw t at before)))
      (λ t. rw t (suc-le-suc (pass text i (le_of_suc-le-suc h) (le_of_suc-le-suc (rw t at before)) other)))

  -- nor at any of n places: it goes on behind them
  pub pass_all : (text : List ℕ) (i n : ℕ) → i + n ≤ length text → i ≤ length (up_to stop text)
      → all_below (λ j. not (eqb (get_or text (i + j) 0) stop)) n ≡ true → i + n ≤ length (up_to stop text)
  unfolding all_below
  pass_all text i zero h before others = omega arith
  pass_all text i (suc n) h before others =
      let tests = both (all_below (λ j. not (eqb (get_or text (i + j) 0) stop)) n)
      (not (eqb (get_or text (i + n) 0) stop)) others in
      let next : suc (i + n) ≤ length (up_to stop text) =
      pass text (i + n) (omega arith) (pass_all text i n (omega arith) before tests.0)
      (eqb-false _ stop (not-true _ tests.1)) in
      omega arith

  -- it is here: it is the first
  found : (text : List ℕ) (i : ℕ) → i < length text → get_or text i 0 ≡ stop → length (up_to stop text) ≤ i
  unfolding up_to
  found [] i h here = absurd (not-suc-le-zero h)
  found (byte ∷ text) zero h here = rw (eq-eqb byte stop here) (omega arith)
  found (byte ∷ text) (suc i) h here =
      by_test (eqb byte stop) (λ t. rw t (omega arith))
      (λ t. rw t (suc-le-suc (found text i (le_of_suc-le-suc h) here)))

  pub stops : (text : List ℕ) (i : ℕ) → i ≤ length (up_to stop text) → i < length text → get_or text i 0 ≡ stop
      → i ≡ length (up_to stop text)
  stops text i before h here = omega (arith, found text i h here)

-- the bytes before the place, and those behind it
pub up_to_take : (stop : ℕ) (text : List ℕ) → take (length (up_to stop text)) text ≡ up_to stop text
unfolding up_to
up_to_take stop [] = refl
up_to_take stop (byte ∷ text) =
    by_test (eqb byte stop) (λ t. rw t refl)
    (λ t. rw t (ap (λ (l : List ℕ). byte ∷ l) (up_to_take stop text)))

pub up_to_short : (stop : ℕ) (text : List ℕ) → length (up_to stop text) ≤ length text
up_to_short stop text = omega (arith, simp length-take at (ap length (up_to_take stop text)))

pub behind_some : (stop : ℕ) (text : List ℕ) → length (up_to stop text) < length text
    → behind stop text ≡ Some (drop (suc (length (up_to stop text))) text)
unfolding up_to behind
behind_some stop [] h = absurd (not-suc-le-zero h)
behind_some stop (byte ∷ text) h =
    by_test (eqb byte stop) (λ t. rw t refl)
    (λ t. rw t (behind_some stop text (le_of_suc-le-suc (rw t at h))))

pub behind_none : (stop : ℕ) (text : List ℕ) → length text ≤ length (up_to stop text) → behind stop text ≡ None
unfolding up_to behind
behind_none stop [] h = refl
behind_none stop (byte ∷ text) h =
    by_test (eqb byte stop) (λ t. absurd (not-suc-le-zero (rw t at h)))
    (λ t. rw t (behind_none stop text (le_of_suc-le-suc (rw t at h))))
