-- The digests of a year, over every pattern of month and day that an entry can hold, real dates or not.
-- A reader of the public contracts needs none of it.
-- Assumes nothing.
use Rattle.std.specs.Prelude.{ℕ, ◌+◌, ◌*◌, ◌/◌, ◌%◌}
use Rattle.calendar.specs.declared.Date.{Date}
use Rattle.calendar.specs.Calendar.{day_number}
use Rattle.calendar.specs.Order.{date}
use Rattle.sheets.specs.declared.dates.Digests.{Digests}
use Rattle.sheets.specs.Digest.{mixed, answer_in, in_turn}
use Rattle.sheets.specs.Licences.{with_renewals, with_end}
use Rattle.sheets.specs.Sums.{with_sums}

-- an entry that ends on a date, with copies that change from date to date
abbrev pub entry_of : Date → ℕ → ℕ
entry_of end state =
    ((end.year * 16 + end.month) * 32 + end.day) * 524288 + (end.month * 4000 + end.day) * 8 + state

unfoldable pub with_number : Date → ℕ → ℕ
with_number on digest = answer_in mixed (day_number on.year on.month on.day) digest

-- all but the day number, for one entry
unfoldable pub with_state : Date → ℕ → Digests → Digests
with_state end state digests =
    let given = entry_of end state in
    record digests {
      renewals = with_renewals given digests.renewals;
      verdicts = with_end given end digests.verdicts;
      sums = with_sums given digests.sums;
    }

-- entries of the states 0 to 4
abbrev pub with_states : Date → Digests → Digests
with_states end digests = in_turn (with_state end) 5 digests

abbrev pub with_date : Date → Digests → Digests
with_date end digests = record (with_states end digests) { numbers = with_number end digests.numbers }

-- the i-th pattern: months 0 to 15, days 0 to 31
abbrev pub with_pattern : ℕ → ℕ → Digests → Digests
with_pattern year i = with_date (date year (i / 32) (i % 32))

abbrev pub no_digests : Digests
no_digests =
    record { numbers = 0; renewals = 0; verdicts = 0; sums = record { twice = 0; differing = 0 } }

abbrev pub year_digests : ℕ → Digests
year_digests year = in_turn (with_pattern year) 512 no_digests
