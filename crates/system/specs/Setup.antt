-- A setup in numbers (01, 'Rehearsal': f, the desks, and one mark for each of 13 keepers; 02, C-11: n too).
--
-- In order: the settings; what a setup answers; the memory that it leaves.
-- Assumes nothing.
use Rattle.std.specs.Prelude.{ℕ, ◌^◌, cond, List, ltb}
use Rattle.std.specs.Prelude.{Some, Result, Ok, Err}
use Rattle.refusal.specs.declared.Refusal.{Refusal}
use Rattle.refusal.specs.Ladder.{or_refused}
use Rattle.refusal.specs.Numbers.{numbered}
use Rattle.register.specs.Settings.{most_servers, setup_refusal}
use Rattle.register.specs.World.{new_world}
use Rattle.state.specs.declared.Settings.{Settings}
use Rattle.state.specs.State.{settings_of, store_servers, store_clients, store_slots}

-- f, n, the number of clients, and the marks as bits, server k's bit k - 1
abbrev pub settings_by : ℕ → ℕ → ℕ → ℕ → Settings
settings_by f n clients faulty = record { f = f; n = n; clients = clients; faulty = faulty }

-- SET with the settings, or REFUSED 1, 'no such room', or 2, 'too many liars'; a mark beyond the 13 is one
-- beyond n
unfoldable pub setup_of : ℕ → ℕ → ℕ → ℕ → Result Settings Refusal
setup_of f n clients faulty =
    or_refused
    (cond (ltb faulty (2 ^ most_servers)) (setup_refusal (settings_of (settings_by f n clients faulty)))
    (Some (numbered 1)))
    (settings_by f n clients faulty)

-- ---- the memory

-- the answer of a setup, and the memory behind it
pub record SetUp : Type 0 where
  pub answer : Result Settings Refusal
  pub servers : List ℕ
  pub clients : List ℕ
  pub slots : List ℕ

abbrev pub set_up : Result Settings Refusal → List ℕ → List ℕ → List ℕ → SetUp
set_up answer servers clients slots =
    record { answer = answer; servers = servers; clients = clients; slots = slots }

-- an accepted setup leaves the new world, which is stored as zeros; a refused one leaves all as it was
unfoldable pub set_up_by : Result Settings Refusal → List ℕ → List ℕ → List ℕ → SetUp
set_up_by (Ok settings) servers clients slots =
    set_up (Ok settings) (store_servers new_world) (store_clients new_world) (store_slots new_world)
set_up_by (Err why) servers clients slots = set_up (Err why) servers clients slots
