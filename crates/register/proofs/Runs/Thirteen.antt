-- Thirteen servers, the most: of these a client waits for twelve where one may be faulty, and for all where
-- none may (02, C-11). With the least number of servers it would be three, and one.
--
-- With f = 1, a write has the initial pair from eleven servers and sends nothing: there is nothing for
-- server 1 to take. With the twelfth it sends. Eleven acknowledgements do not end it, the twelfth does. With
-- f = 0, a read ends with the thirteenth INFO, and not with the twelfth.
-- What counts does not grow with n: with f = 1, three noted timestamps and two sets of thirteen are enough,
-- and they may be the last servers' (`three_and_two`). Demand 3 would allow more to be asked for.
-- Assumes nothing.
use Rattle.register.proofs.Vocabulary.{count_below, all_below, Read, Wrote, Settings, Ok, Err}
use Rattle.register.proofs.Vocabulary.{Accepted, in_range, setup_refusal, R, W, K, D, formats}
use Rattle.register.proofs.Vocabulary.{initial, Client, chosen}
use Rattle.basics.proofs.Prelude.{◌≡◌, refl, false, cond, None, Some, [], ◌∷◌, ◌++◌, ℕ, leb}
use Rattle.register.specs.declared.Phase.TheVariants.{Reading}
use Rattle.refusal.specs.Numbers.{numbered}
use Rattle.register.proofs.Runs.{answers, went, the_entry, pair_by_1, served, taken}

-- S f 13 1 0
abbrev thirteen : ℕ → Settings
thirteen f = record { f = f; n = 13; clients = 1; faulty = λ k. false }

set_up_1 : Accepted (thirteen 1)
unfolding setup_refusal in_range all_below count_below
set_up_1 = refl

set_up_0 : Accepted (thirteen 0)
unfolding setup_refusal in_range all_below count_below
set_up_0 = refl

-- the write: asked, and sent only after the twelfth INFO; DONE and WRITE_INFO served; acknowledged
twelve_for_a_write : answers (thirteen 1) formats
    (W 1 the_entry ∷ served 1 12 ++ taken 1 11 ++ K 1 1 ∷ D 1 12 ∷ served 1 12 ++ served 1 12 ++ taken 1 12)
    ≡ went 24 ++ Err (numbered 10) ∷ went 36 ++ Ok (Wrote pair_by_1) ∷ []
unfolding answers
twelve_for_a_write = refl

all_for_a_read : answers (thirteen 0) formats (R 1 ∷ served 1 13 ++ taken 1 13) ≡ went 26 ++ Ok (Read initial) ∷ []
unfolding answers
all_for_a_read = refl

-- a client with all thirteen timestamps: the pair's own, (1, 1), of the servers from `low` on, and (1, 2) of
-- the others; the pair is in the sets of the servers from `holds` on
abbrev hearing : ℕ → ℕ → Client
hearing low holds =
    record {
      phase = Reading;
      reads = record { 0 = 1 };
      noted = λ k. cond (leb low k) (Some 0x11) (Some 0x12);
      sets = λ k. cond (leb holds k) (pair_by_1 ∷ []) [];
      acks = λ k. false;
    }

-- 2f + 1 noted timestamps and f + 1 sets are enough, whichever servers they are of; one less of either is not
three_and_two : chosen 13 1 1 (hearing 11 12) ≡ Some pair_by_1
unfolding answers
three_and_two = refl

two_timestamps : chosen 13 1 1 (hearing 12 12) ≡ None
unfolding answers
two_timestamps = refl

one_set : chosen 13 1 1 (hearing 11 13) ≡ None
unfolding answers
one_set = refl
