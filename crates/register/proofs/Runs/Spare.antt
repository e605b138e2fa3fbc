-- More servers than the least: a client waits for n − f of them, and not only for 2f + 1 (02, C-11).
--
-- One of five servers may be faulty, and server 5 is. Client 1's write has the initial pair from three
-- servers and sends nothing, since n − f is four: there is nothing for server 1 to take. With the fourth it
-- sends. Three acknowledgements do not end it, the fourth does. Then client 2 reads. With three timestamps
-- noted, the written pair is at or above all three and in three sets, so it counts; none is chosen, and the
-- read goes on. It ends with the fourth timestamp, although server 5 tells an old one.
-- Demand 3 needs the wait for acknowledgements. Of that for timestamps it needs 2f + 1 only, which a pair
-- that counts has anyway; so it is here that the rest of this wait is seen.
-- Assumes nothing.
use Rattle.register.proofs.Vocabulary.{count_below, all_below, Read, Wrote, Settings, Ok, Err}
use Rattle.register.proofs.Vocabulary.{Accepted, in_range, setup_refusal, counts, chosen, Client}
use Rattle.register.proofs.Vocabulary.{Step, R, W, K, D, L, formats}
use Rattle.basics.proofs.Prelude.{◌≡◌, refl, true, None, List, [], ◌∷◌, ◌++◌, ℕ, eqb}
use Rattle.refusal.specs.Numbers.{numbered}
use Rattle.register.specs.History.{last_world}
use Rattle.register.proofs.Runs.{answers, went, the_entry, pair_by_1, served, taken}

-- S 1 5 2 00001
abbrev five : Settings
five = record { f = 1; n = 5; clients = 2; faulty = λ k. eqb k 5 }

set_up_lem : Accepted five
unfolding setup_refusal in_range all_below count_below
set_up_lem = refl

-- INFO of read 1 with the initial pair
abbrev initial_info : List ℕ
initial_info = 0x20 ∷ 0 ∷ 1 ∷ 0 ∷ 0 ∷ 0 ∷ 0 ∷ 0 ∷ 0 ∷ 0 ∷ 0 ∷ []

-- client 1 asks for its write, and sends it only after the fourth INFO
abbrev asked : List Step
asked = W 1 the_entry ∷ served 1 4 ++ taken 1 3 ++ K 1 1 ∷ D 1 4 ∷ []

-- four servers take DONE and WRITE_INFO, and their acknowledgements are taken
abbrev written : List Step
written = served 1 4 ++ served 1 4 ++ taken 1 4

-- client 2 reads, and has three timestamps
abbrev noted : List Step
noted = R 2 ∷ served 2 3 ++ taken 2 3

-- the fourth is of server 5
abbrev shown : List Step
shown = L 5 2 initial_info ∷ D 2 5 ∷ []

spare : answers five formats (asked ++ written ++ noted ++ shown)
    ≡ went 8 ++ Err (numbered 10) ∷ went 12 ++ Ok (Wrote pair_by_1) ∷ went 8 ++ Ok (Read pair_by_1) ∷ []
unfolding answers
spare = refl

-- client 2 at three noted timestamps: the pair counts, and none is chosen
abbrev waiting : Client
waiting = (last_world five formats (asked ++ written ++ noted)).clients 2

already_counts : counts 5 1 2 waiting pair_by_1 ≡ true
unfolding answers
already_counts = refl

still_waits : chosen 5 1 2 waiting ≡ None
unfolding answers
still_waits = refl
