-- Why the rows of two reads need agree only on the writes that began before both had ended.
--
-- Four servers, of which server 4 is faulty, and three clients. Client 2's write, begun at step 0, sends
-- the timestamp (1, 2), which reaches server 1 only. Client 3's read, begun at step 7, has it from server 1
-- and from the faulty server 4, and shows it at step 15. Client 1's write begins after that, at step 16,
-- asks servers 2, 3 and 4, which do not have it, sends the lower timestamp (1, 1) and ends at step 30.
-- Client 3 reads again from step 31 on, and shows (1, 2) once more. So in the first read's row the write of
-- step 16 stands after the read, and the read right after the write of step 0; in the second read's row the
-- write of step 16, which ended before the read began, stands before it, and so before the write of step 0.
-- Assumes nothing.
use Rattle.register.proofs.Vocabulary.{count_below, all_below, Read, Wrote, Settings, Accepted, in_range}
use Rattle.register.proofs.Vocabulary.{setup_refusal, Step, R, W, K, D, L, formats, Ok}
use Rattle.basics.proofs.Prelude.{◌≡◌, refl, List, [], ◌∷◌, ◌++◌, ℕ, eqb}
use Rattle.register.proofs.Runs.{answers, went, the_entry, pair_by_1, pair_by_2}

-- S 1 4 3 0001
abbrev pub four : Settings
four = record { f = 1; n = 4; clients = 3; faulty = λ k. eqb k 4 }

set_up_lem : Accepted four
unfolding setup_refusal in_range all_below count_below
set_up_lem = refl

-- INFO of a read with the pair of counter 1 and client 2, with the initial pair; WRITE_ACK with counter 1
abbrev info : ℕ → List ℕ
info tag = 0x20 ∷ 0 ∷ tag ∷ 0 ∷ 0 ∷ 0x12 ∷ 0x7E ∷ 0x82 ∷ 0xE8 ∷ 0x01 ∷ 0x41 ∷ []

abbrev initial_info : List ℕ
initial_info = 0x20 ∷ 0 ∷ 1 ∷ 0 ∷ 0 ∷ 0 ∷ 0 ∷ 0 ∷ 0 ∷ 0 ∷ 0 ∷ []

abbrev ack : List ℕ
ack = 0x60 ∷ 0 ∷ 0 ∷ 0 ∷ 0 ∷ 0x10 ∷ 0 ∷ 0 ∷ 0 ∷ 0 ∷ 0 ∷ []

-- client 2 writes and sends
abbrev pub first : List Step
first = W 2 the_entry ∷ K 1 2 ∷ K 2 2 ∷ K 3 2 ∷ D 2 1 ∷ D 2 2 ∷ D 2 3 ∷ []

-- client 3 reads it
abbrev pub early : List Step
early = R 3 ∷ K 1 2 ∷ K 1 2 ∷ K 1 3 ∷ K 2 3 ∷ L 4 3 (info 1) ∷ D 3 1 ∷ D 3 2 ∷ D 3 4 ∷ []

-- client 1 writes, sends and ends
abbrev pub second : List Step
second =
    W 1 the_entry ∷ K 2 1 ∷ K 3 1 ∷ L 4 1 initial_info ∷ D 1 2 ∷ D 1 3 ∷ D 1 4
    ∷ K 2 1 ∷ K 2 1 ∷ K 3 1 ∷ K 3 1 ∷ L 4 1 ack ∷ D 1 2 ∷ D 1 3 ∷ D 1 4 ∷ []

-- client 3 reads again
abbrev pub late : List Step
late = R 3 ∷ K 1 3 ∷ K 1 3 ∷ K 2 3 ∷ K 2 3 ∷ L 4 3 (info 2) ∷ D 3 1 ∷ D 3 2 ∷ D 3 2 ∷ D 3 4 ∷ []

disagree : answers four formats (first ++ early ++ second ++ late)
    ≡ went 15 ++ Ok (Read pair_by_2) ∷ went 14 ++ Ok (Wrote pair_by_1) ∷ went 9 ++ Ok (Read pair_by_2) ∷ []
unfolding answers
disagree = refl
