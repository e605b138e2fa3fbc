-- Setups, accepted and refused (01, the table's lines 1 and 2; 02, C-11).
--
-- In order: which n each f allows, by a table; what is refused and how, numbers first and then marks.
-- Assumes nothing.
use Rattle.register.proofs.Vocabulary.{count_below, all_below, Settings, in_range, setup_refusal, Refusal}
use Rattle.basics.proofs.Prelude.{◌≡◌, refl, Bool, true, false, cond, ◌||◌, Option, None, Some}
use Rattle.basics.proofs.Prelude.{List, [], ◌∷◌, ◌++◌, ℕ, zero, suc, eqb}
use Rattle.refusal.specs.Numbers.{numbered}

-- one client, and some servers marked
abbrev setup : ℕ → ℕ → (ℕ → Bool) → Settings
setup f n marked = record { f = f; n = n; clients = 1; faulty = marked }

abbrev unmarked : ℕ → Bool
unmarked k = false

-- ---- which n each f allows

abbrev is_accepted : Option Refusal → Bool
is_accepted None = true
is_accepted (Some refusal) = false

-- of the numbers below a limit, those that are accepted as n, with f and no marks
abbrev allowed : ℕ → ℕ → List ℕ
allowed f zero = []
allowed f (suc n) = allowed f n ++ cond (is_accepted (setup_refusal (setup f n unmarked))) (n ∷ []) []

record Allowed : Type 0 where
  none_faulty : allowed 0 20 ≡ 1 ∷ 2 ∷ 3 ∷ 4 ∷ 5 ∷ 6 ∷ 7 ∷ 8 ∷ 9 ∷ 10 ∷ 11 ∷ 12 ∷ 13 ∷ []
  one_faulty : allowed 1 20 ≡ 4 ∷ 5 ∷ 6 ∷ 7 ∷ 8 ∷ 9 ∷ 10 ∷ 11 ∷ 12 ∷ 13 ∷ []
  two_faulty : allowed 2 20 ≡ 7 ∷ 8 ∷ 9 ∷ 10 ∷ 11 ∷ 12 ∷ 13 ∷ []
  three_faulty : allowed 3 20 ≡ 10 ∷ 11 ∷ 12 ∷ 13 ∷ []
  four_faulty : allowed 4 20 ≡ 13 ∷ []
  five_faulty : allowed 5 20 ≡ []

allowed_sizes : Allowed
unfolding setup_refusal in_range all_below count_below
allowed_sizes =
    record {
      none_faulty = refl;
      one_faulty = refl;
      two_faulty = refl;
      three_faulty = refl;
      four_faulty = refl;
      five_faulty = refl;
    }

-- ---- refusals

record Refusals : Type 0 where
  -- no server; 3f servers; more than the most; f out of range
  no_server : setup_refusal (setup 0 0 unmarked) ≡ Some (numbered 1)
  three_f : setup_refusal (setup 1 3 unmarked) ≡ Some (numbered 1)
  fourteen : setup_refusal (setup 1 14 unmarked) ≡ Some (numbered 1)
  five_f : setup_refusal (setup 5 16 unmarked) ≡ Some (numbered 1)
  -- of five servers the last may be marked, a sixth may not
  mark_at_n : setup_refusal (setup 1 5 (λ k. eqb k 5)) ≡ None
  mark_beyond_n : setup_refusal (setup 1 5 (λ k. eqb k 6)) ≡ Some (numbered 1)
  -- more than f marks; with three servers as well, which is refused first
  two_marks : setup_refusal (setup 1 5 (λ k. eqb k 4 || eqb k 5)) ≡ Some (numbered 2)
  both : setup_refusal (setup 1 3 (λ k. eqb k 1 || eqb k 2)) ≡ Some (numbered 1)

refusals : Refusals
unfolding setup_refusal in_range all_below count_below
refusals =
    record {
      no_server = refl;
      three_f = refl;
      fourteen = refl;
      five_f = refl;
      mark_at_n = refl;
      mark_beyond_n = refl;
      two_marks = refl;
      both = refl;
    }
