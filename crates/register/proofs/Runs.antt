-- Runs computed from the definitions, so that the theorems are about something: what each answers is what
-- 01's rules give.
--
-- In order: the answers of a list of steps, one by one; the entry that they write, and its pairs; the same
-- step with one server after another. The runs are in the files of Runs/.
-- Assumes nothing.
use Rattle.basics.specs.Bytes.{spelt}
use Rattle.register.proofs.Vocabulary.{count_below, all_below, update, counter, stamp, pair_of, Settings}
use Rattle.register.proofs.Vocabulary.{is_server, is_client, is_honest, stored, next_server, server_sends}
use Rattle.register.proofs.Vocabulary.{forwards, sent_to, add, has, is_idle, is_reading, next_read}
use Rattle.register.proofs.Vocabulary.{started, with_pair, with_info, with_ack, entry_of, is_noted}
use Rattle.register.proofs.Vocabulary.{is_at_most, chosen, client_takes, puts_up, puts_down, leaves_up}
use Rattle.register.proofs.Vocabulary.{leaves_down, next_up, next_down, next_servers, next_clients}
use Rattle.register.proofs.Vocabulary.{next_stopped, apply, answer_of, Step, K, D, Formats, oldest}
use Rattle.register.proofs.Vocabulary.{has_room, room_up, room_down, ladder, refusal_of, accepted}
use Rattle.register.proofs.Vocabulary.{event_of, world_at, answer_at, Ok, StepAnswer}
use Rattle.basics.proofs.Prelude.{List, [], ◌∷◌, ◌++◌, length, ℕ, zero, suc}
use Rattle.calendar.specs.Calendar.{is_date, month_length, leap}
use Rattle.licence.specs.Entry.{is_licence, is_licensed}
use Rattle.message.specs.Layout.{message_of, unpack_of, goes, is_reply}
use Rattle.register.specs.PairSet.{insert}
use Rattle.register.specs.Client.{is_storing}
use Rattle.register.specs.Client.{higher, highest_of, all_pairs}
use Rattle.register.specs.Client.{not_old, valid, counts, concluded, after_choice, acknowledged}
use Rattle.register.specs.Client.{uses_info}
use Rattle.register.specs.Steps.{is_empty}
use Rattle.register.proofs.Vocabulary.{Entry, Pair, Went}
pub mod Listing
pub mod Overlap
pub mod Disagree
pub mod RowsDisagree
pub mod Setups
pub mod Spare
pub mod Thirteen

-- the answers of n steps from step i on
abbrev pub answers_from : Settings → Formats → List Step → ℕ → ℕ → List StepAnswer
answers_from settings judge steps i zero = []
answers_from settings judge steps i (suc n) =
    answer_at settings judge steps i ∷ answers_from settings judge steps (suc i) n

-- all answers of a list of steps; to unfold it is to unfold all that it computes with
unfoldable pub answers : Settings → Formats → List Step → List StepAnswer
unfolding world_at answer_of event_of refusal_of ladder accepted apply next_servers next_clients next_stopped next_up
    next_down leaves_up leaves_down puts_up puts_down is_empty oldest has_room room_up room_down goes is_reply
    all_below count_below update is_server is_client is_honest
    stored next_server server_sends forwards sent_to insert add has is_idle is_reading is_storing
    next_read started with_pair with_info with_ack entry_of is_noted is_at_most higher highest_of all_pairs
    not_old valid counts chosen concluded after_choice acknowledged uses_info client_takes
    counter stamp pair_of spelt message_of unpack_of is_licence is_licensed is_date month_length leap
answers settings judge steps = answers_from settings judge steps 0 (length steps)

abbrev pub went : ℕ → List StepAnswer
went zero = []
went (suc n) = Ok Went ∷ went n

-- the entry of 01's examples: 29 February 2024, 40 copies, open
abbrev pub the_entry : Entry
the_entry = record { 0 = 0x7E82E80141 }

-- the pairs of counter 1, of client 1 or 2, and of that entry, which in hexadecimal stand side by side; as
-- sums they would be compared with a run's pairs part by part, which can take too many steps
abbrev pub pair_by_1 : Pair
pair_by_1 = record { 0 = 0x117E82E80141 }

abbrev pub pair_by_2 : Pair
pair_by_2 = record { 0 = 0x127E82E80141 }

-- K, and D, of client d and each of the servers 1 to n, in this order
abbrev pub served : ℕ → ℕ → List Step
served d zero = []
served d (suc n) = served d n ++ K (suc n) d ∷ []

abbrev pub taken : ℕ → ℕ → List Step
taken d zero = []
taken d (suc n) = taken d n ++ D d (suc n) ∷ []
