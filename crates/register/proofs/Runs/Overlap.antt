-- Four servers, of which server 4 is faulty, and two clients: a read overlaps a write, server 4 lies to
-- both, a client stops, and steps are refused, with each of the numbers 4 to 10. A ninth message on a
-- channel is refused 12.
--
-- Client 1 writes while client 2 reads. Server 4 tells client 1 a pair that nobody wrote: it is in one set
-- only, so it does not count, and it hides that two honest servers are enough, so the client waits for the
-- third. Client 2 has the initial pair of server 1, then the new pair by FWD; with the new pair from
-- servers 2 and 4 it shows it, before the write has ended.
-- Assumes nothing.
use Rattle.register.proofs.Vocabulary.{count_below, all_below, Went, Read, Wrote, Settings, Ok, Err}
use Rattle.register.proofs.Vocabulary.{Accepted, in_range, setup_refusal, Step, R, W, K, D, C, L}
use Rattle.register.proofs.Vocabulary.{formats}
use Rattle.basics.proofs.Prelude.{◌≡◌, refl, List, [], ◌∷◌, ◌++◌, ℕ, zero, suc, ◌+◌, ◌*◌, eqb}
use Rattle.refusal.specs.Numbers.{numbered}
use Rattle.register.proofs.Runs.{answers, went, the_entry, pair_by_1}

-- S 1 4 2 0001
abbrev four : Settings
four = record { f = 1; n = 4; clients = 2; faulty = λ k. eqb k 4 }

set_up_lem : Accepted four
unfolding setup_refusal in_range all_below count_below
set_up_lem = refl

-- INFO of read 1 with a counter, client d and the entry
abbrev info : ℕ → ℕ → List ℕ
info count d = 0x20 ∷ 0 ∷ 1 ∷ 0 ∷ 0 ∷ (count * 16 + d) ∷ 0x7E ∷ 0x82 ∷ 0xE8 ∷ 0x01 ∷ 0x41 ∷ []

-- client 1 reads for its write, server 4 lies, and the write is sent
abbrev begun : List Step
begun = W 1 the_entry ∷ R 2 ∷ K 1 1 ∷ K 2 1 ∷ K 3 1 ∷ L 4 1 (info 5 2) ∷ D 1 4 ∷ D 1 1 ∷ D 1 2 ∷ D 1 3 ∷ []

-- client 2 asks server 1 before the write and server 2 after it, and shows the write
abbrev shown : List Step
shown =
    K 1 2 ∷ K 1 1 ∷ K 1 1 ∷ K 2 1 ∷ K 2 1 ∷ K 2 2 ∷ D 2 1 ∷ D 2 1 ∷ D 2 2 ∷ L 4 2 (info 1 1) ∷ D 2 4 ∷ []

-- the write ends
abbrev stored_by_all : List Step
stored_by_all = K 3 1 ∷ K 3 1 ∷ D 1 1 ∷ D 1 2 ∷ D 1 3 ∷ []

-- client 1 stops; what is refused
abbrev refused : List Step
refused =
    C 1 ∷ R 1 ∷ R 3 ∷ K 4 2 ∷ L 1 2 (info 1 1) ∷ W 2 (record { 0 = 1 }) ∷ L 4 2 (0x20 ∷ []) ∷ D 2 3 ∷ R 2
    ∷ R 2 ∷ []

overlap : answers four formats (begun ++ shown ++ stored_by_all ++ refused)
    ≡ went 20 ++ Ok (Read pair_by_1) ∷ went 4 ++ Ok (Wrote pair_by_1) ∷ Ok Went ∷ Err (numbered 6)
    ∷ Err (numbered 4)
    ∷ Err (numbered 5) ∷ Err (numbered 5) ∷ Err (numbered 8) ∷ Err (numbered 9)
    ∷ Err (numbered 10) ∷ Ok Went
    ∷ Err (numbered 7) ∷ []
unfolding answers
overlap = refl

-- server 4 puts messages on its channel to client 2, which takes none
abbrev lies : ℕ → List Step
lies zero = []
lies (suc n) = L 4 2 (info 1 1) ∷ lies n

ninth : answers four formats (lies 9) ≡ went 8 ++ Err (numbered 12) ∷ []
unfolding answers
ninth = refl
