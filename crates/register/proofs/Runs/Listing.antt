-- The listing of 01, 'The program rehearse': one server, one client; a write, then a read, step by step
-- with their answers.
-- Assumes nothing.
use Rattle.basics.proofs.Prelude.{◌≡◌, refl, false, List, [], ◌∷◌}
use Rattle.register.proofs.Vocabulary.{count_below, all_below, Went, Read, Wrote, Settings, Accepted, Ok}
use Rattle.register.proofs.Vocabulary.{in_range, setup_refusal, Step, R, W, K, D, formats}
use Rattle.register.proofs.Runs.{answers, the_entry, pair_by_1}

-- S 0 1 1 0
abbrev alone : Settings
alone = record { f = 0; n = 1; clients = 1; faulty = λ k. false }

set_up_lem : Accepted alone
unfolding setup_refusal in_range all_below count_below
set_up_lem = refl

abbrev steps : List Step
steps = W 1 the_entry ∷ K 1 1 ∷ D 1 1 ∷ K 1 1 ∷ K 1 1 ∷ D 1 1 ∷ R 1 ∷ K 1 1 ∷ D 1 1 ∷ []

listing : answers alone formats steps
    ≡ Ok Went ∷ Ok Went ∷ Ok Went ∷ Ok Went ∷ Ok Went ∷ Ok (Wrote pair_by_1) ∷ Ok Went ∷ Ok Went ∷ Ok (Read pair_by_1) ∷ []
unfolding answers
listing = refl
