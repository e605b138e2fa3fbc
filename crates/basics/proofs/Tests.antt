-- What passing all tests says of each test.
--
-- A list of tests passes when each does (`each`, `all_of`); a test passes on all numbers below n when it
-- does on each (`below`, `below_of`), and fails on one of them otherwise (`below_fails`). A loop that leaves
-- at the first failure has passed all before (`one_more`, `fails_here`, `all_passed`).
-- Assumes nothing.
use Rattle.basics.proofs.Prelude.{◌≡◌, refl, sym, ap, ◌∙◌, Bool, true, false, List, [], ◌∷◌, ℕ, zero, suc}
use Rattle.basics.proofs.Prelude.{◌+◌, ◌<◌, not-suc-le-zero, add-one, arith}
use Rattle.basics.specs.Tests.{all_pass, all_below}
use Rattle.basics.proofs.Cases.{by_test, both, both_of, true_or_false}
use Rattle.basics.proofs.Ranges.{at_last}

abbrev pub Each : List Bool → Type 0
Each [] = Unit {0}
Each (test ∷ tests) = (test ≡ true) × Each tests

pub each : (tests : List Bool) → all_pass tests ≡ true → Each tests
each [] e = tt
each (test ∷ tests) e = let p = both test (all_pass tests) e in (p.0, each tests p.1)

pub all_of : (tests : List Bool) → Each tests → all_pass tests ≡ true
all_of [] e = refl
all_of (test ∷ tests) e = both_of test (all_pass tests) e.0 (all_of tests e.1)

pub below : (test : ℕ → Bool) (n : ℕ) → all_below test n ≡ true → (i : ℕ) → i < n → test i ≡ true
unfolding all_below
below test zero e i h = absurd (not-suc-le-zero h)
below test (suc n) e i h =
    let q = both (all_below test n) (test n) e in
    at_last i n h (λ same. ap test same ∙ q.1) (λ less. below test n q.0 i less)

pub below_of : (test : ℕ → Bool) (n : ℕ) → ((i : ℕ) → i < n → test i ≡ true) → all_below test n ≡ true
unfolding all_below
below_of test zero h = refl
below_of test (suc n) h =
    both_of (all_below test n) (test n) (below_of test n (λ i less. h i (omega arith))) (h n (omega arith))

pub below_fails : (test : ℕ → Bool) (n i : ℕ) → i < n → test i ≡ false → all_below test n ≡ false
below_fails test n i h e =
    by_test (all_below test n) (λ yes. absurd (true_or_false (test i) (below test n yes i h) e)) (λ no. no)

-- ---- what the code finds of a test: a result

pub passed : {result test : Bool} → result ≡ test → result ≡ true → test ≡ true
passed e h = sym e ∙ h

pub failed : {result test : Bool} → result ≡ test → result ≡ false → test ≡ false
failed e h = sym e ∙ h

-- ---- a loop that leaves at the first failure, of tests with results

module _ (test : ℕ → Bool) where
  pub none_passed : all_below test 0 ≡ true
  unfolding all_below
  none_passed = refl

  pub one_more : (i : ℕ) {result : Bool} → all_below test i ≡ true → result ≡ test i → result ≡ true
      → all_below test (i + 1) ≡ true
  unfolding all_below
  one_more i h e left = rw (add-one, h) (passed e left)

  pub fails_here : (n i : ℕ) {result : Bool} → i < n → result ≡ test i → result ≡ false
      → false ≡ all_below test n
  fails_here n i less e removed = sym (below_fails test n i less (failed e removed))

  pub all_passed : {i n : ℕ} → i ≡ n → all_below test i ≡ true → true ≡ all_below test n
  all_passed e h = sym (rw (← e) h)
