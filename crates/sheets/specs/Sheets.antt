-- The marked proof sheets of 01, with C-12's two, as one table, `Sheets`, whose proof is computed from the
-- definitions (proofs/Sheets.antt).
--
-- In order: entries; days; messages; what counts, and what a set keeps; all of them.
-- Assumes nothing.
use Rattle.std.specs.Prelude.{◌≡◌, ℕ, true, false, cond, List, [], ◌∷◌, map, leb, negsuc, get_or}
use Rattle.std.specs.Prelude.{None, Some, Ok}
use Rattle.calendar.specs.Calendar.{day_number}
use Rattle.licence.specs.declared.Kind.TheVariants.{Nothing}
use Rattle.licence.specs.declared.Verdict.TheVariants.{Pulp}
use Rattle.licence.specs.Entry.{joined, joined_of, kind_of, ending}
use Rattle.licence.specs.Renewal.{renewed_of}
use Rattle.licence.specs.Verdict.{days_left, verdict_of}
use Rattle.message.specs.declared.Message.TheVariants.{WriteInfo}
use Rattle.message.specs.declared.Pair.{Pair}
use Rattle.message.specs.Pair.{pair_of, stamp}
use Rattle.message.specs.Layout.{bytes_of}
use Rattle.register.specs.declared.Phase.TheVariants.{Reading}
use Rattle.register.specs.PairSet.{add}
use Rattle.register.specs.Client.{Client, counts, set_limit}

-- entries and renewals
pub record Entries : Type 0 where
  -- 29 February 2024, 40 copies, open is 7E82E80141
  pub packed : joined_of (ending 2024 2 29) ≡ Ok 0x7E82E80141
  -- 7E92E80141 (2025) is no entry
  pub other_year : kind_of 0x7E92E80141 ≡ Nothing
  -- it renewed by 1 ends 28 February 2025; by 4, 29 February 2028
  pub renewed_by_1 : renewed_of 0x7E82E80141 1 ≡ Ok (joined (ending 2025 2 28))
  pub renewed_by_4 : renewed_of 0x7E82E80141 4 ≡ Ok (joined (ending 2028 2 29))
  -- 28 February 2027 renewed by 1 ends on 29 February 2028; 28 February 2028 on 28 February 2029 (02, C-12)
  pub last_renewed : renewed_of (joined (ending 2027 2 28)) 1 ≡ Ok (joined (ending 2028 2 29))
  pub not_last_renewed : renewed_of (joined (ending 2028 2 28)) 1 ≡ Ok (joined (ending 2029 2 28))

-- day numbers, days left, verdicts
pub record Days : Type 0 where
  -- 29 February 2024 is day 45,350; 31 December 2199 is day 109,573
  pub leap_day : day_number 2024 2 29 ≡ Ok 45350
  pub last_day : day_number 2199 12 31 ≡ Ok 109573
  -- ending 29 February 2024, on 1 March 2024 days left are −1: pulp
  pub left_after : days_left 0x7E82E80141 2024 3 1 ≡ Ok (negsuc 0)
  pub verdict_after : verdict_of 0x7E82E80141 2024 3 1 ≡ Ok Pulp

-- messages
pub record Messages : Type 0 where
  -- WRITE_INFO of 7E82E80141, counter 1, client 1, is 4000000000117E82E80141
  pub write_info : bytes_of (WriteInfo (pair_of (record { 0 = 1 }) 1 (record { 0 = 0x7E82E80141 })))
      ≡ 0x40 ∷ 0x00 ∷ 0x00 ∷ 0x00 ∷ 0x00 ∷ 0x11 ∷ 0x7E ∷ 0x82 ∷ 0xE8 ∷ 0x01 ∷ 0x41 ∷ []

-- the pair of a counter, a client and the entry of these sheets; pairs of client 1
abbrev pub pair_by : ℕ → ℕ → Pair
pair_by counter d = pair_of (record { 0 = counter }) d (record { 0 = 0x7E82E80141 })

abbrev pub pairs : List ℕ → List Pair
pairs counters = map (λ counter. pair_by counter 1) counters

-- a client that reads, with the timestamps of these pairs noted of the servers 1, 2 and 3, and the pair
-- (1, 1) in the sets of the first so many servers
abbrev pub noting : Pair → Pair → Pair → ℕ → Client
noting first second third many =
    record {
      phase = Reading;
      reads = record { 0 = 1 };
      noted = λ k. get_or (None ∷ Some (stamp first) ∷ Some (stamp second) ∷ Some (stamp third) ∷ []) k None;
      sets = λ k. cond (leb k many) (pairs (1 ∷ [])) [];
      acks = λ k. false;
    }

-- what counts at f = 1 and n = 4, and what a set keeps
pub record Counting : Type 0 where
  -- noted (1,1), (1,1), (0,0), pair (1,1) in two sets: counts
  pub two_sets : counts 4 1 1 (noting (pair_by 1 1) (pair_by 1 1) (pair_by 0 0) 2) (pair_by 1 1) ≡ true
  -- noted (2,2), (1,1), (0,0): it does not
  pub newer_noted : counts 4 1 1 (noting (pair_by 2 2) (pair_by 1 1) (pair_by 0 0) 2) (pair_by 1 1) ≡ false
  -- in one set only: it does not
  pub one_set : counts 4 1 1 (noting (pair_by 1 1) (pair_by 1 1) (pair_by 0 0) 1) (pair_by 1 1) ≡ false
  -- set with counters 3, 5, 6, 9 of client 1: adding 4 drops 3; adding 2 changes nothing
  pub adding_4 : add set_limit (pair_by 4 1) (pairs (3 ∷ 5 ∷ 6 ∷ 9 ∷ [])) ≡ pairs (4 ∷ 5 ∷ 6 ∷ 9 ∷ [])
  pub adding_2 : add set_limit (pair_by 2 1) (pairs (3 ∷ 5 ∷ 6 ∷ 9 ∷ [])) ≡ pairs (3 ∷ 5 ∷ 6 ∷ 9 ∷ [])

-- the table
pub record Sheets : Type 0 where
  pub entries : Entries
  pub days : Days
  pub messages : Messages
  pub counting : Counting
