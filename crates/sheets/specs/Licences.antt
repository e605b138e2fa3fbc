-- The digests of what `licence` answers about one entry: a number for each answer, and the refusal's number
-- where it refuses.
--
-- In order: renewals by each length; days left and verdict on one day; on the days around an end; which ends
-- have such days.
-- A reader of the public contracts needs none of it.
-- Assumes nothing.
use Rattle.std.specs.Prelude.{ℕ, ◌+◌, ◌-◌, ◌≤◌, ◌<◌, ℤ, Result, Ok, Err}
use Rattle.std.specs.List.{fold, range_with_len}
use Rattle.refusal.specs.declared.Refusal.{Refusal}
use Rattle.refusal.specs.Numbers.{number_of}
use Rattle.calendar.specs.declared.Date.{Date}
use Rattle.calendar.specs.Order.{date}
use Rattle.licence.specs.declared.Verdict.{Verdict}
use Rattle.licence.specs.declared.Verdict.TheVariants.{Pulp, Hold, Print}
use Rattle.licence.specs.Renewal.{most_years, renewed_of}
use Rattle.licence.specs.Verdict.{days_left, verdict_of}
use Rattle.sheets.specs.Digest.{mixed, raised, answer_in, in_turn}

unfoldable pub with_renewal : ℕ → ℕ → ℕ → ℕ
with_renewal entry years digest = answer_in mixed (renewed_of entry years) digest

-- by 0 years up to the most, and by one too many
abbrev pub with_renewals : ℕ → ℕ → ℕ
with_renewals entry digest = in_turn (with_renewal entry) (most_years + 2) digest

unfoldable pub with_days : ℕ → Date → ℕ → ℕ
with_days entry on digest =
    answer_in (λ (days : ℤ). mixed (raised days)) (days_left entry on.year on.month on.day) digest

abbrev pub verdict_in : Result Verdict Refusal → ℕ → ℕ
verdict_in (Ok Pulp) digest = mixed 20 digest
verdict_in (Ok Hold) digest = mixed 21 digest
verdict_in (Ok Print) digest = mixed 22 digest
verdict_in (Err why) digest = mixed (number_of why) digest

unfoldable pub with_verdict : ℕ → Date → ℕ → ℕ
with_verdict entry on digest = verdict_in (verdict_of entry on.year on.month on.day) digest

abbrev pub with_day : ℕ → Date → ℕ → ℕ
with_day entry on digest = with_verdict entry on (with_days entry on digest)

-- a day and its neighbours in the month; there is no day before 0
abbrev pub near : ℕ → Date → ℕ → ℕ
near entry on digest =
    with_day entry (date on.year on.month (on.day + 1))
    (with_day entry on (with_day entry (date on.year on.month (on.day - 1)) digest))

-- the days 28 to 31 of the month before, some of which are none
abbrev pub month_before : ℕ → Date → ℕ → ℕ
month_before entry on digest =
    let with_last : ℕ → ℕ → ℕ = λ before day. with_day entry (date on.year (on.month - 1) day) before in
    fold with_last digest (range_with_len 28 4)

-- the first of the next month, the last day of the year before, the first of the year after
abbrev pub years_beside : ℕ → Date → ℕ → ℕ
years_beside entry on digest =
    with_day entry (date (on.year + 1) 1 1)
    (with_day entry (date (on.year - 1) 12 31) (with_day entry (date on.year (on.month + 1) 1) digest))

-- around the end of an entry
abbrev pub with_end : ℕ → Date → ℕ → ℕ
with_end entry on digest = years_beside entry on (month_before entry on (near entry on digest))

-- years, months and days that have others beside them
abbrev pub HasNeighbours : Date → Type 0
HasNeighbours on = (1 ≤ on.year) × (on.year < 65535) × (on.month < 16) × (on.day < 32)
