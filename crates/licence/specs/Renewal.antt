-- Renewal by a number of years (01: 'Renewal by 0 to 10 years; 0 means 1'; the day by 02, C-12).
--
-- In order: the years that are added; the last day of February, and the day that the end falls on in another
-- year; the fields with their end in another year; what may be renewed; the answer. Callers go by its laws
-- (proofs/Renewed.antt), since C-16 changes `span`.
-- Assumes nothing.
use Rattle.std.specs.Prelude.{ℕ, ◌+◌, Bool, cond, not, ◌&&◌, [], ◌∷◌, eqb, leb, Result}
use Rattle.refusal.specs.declared.Refusal.{Refusal}
use Rattle.refusal.specs.Ladder.{◌whenever◌, lowest, or_refused}
use Rattle.calendar.specs.Calendar.{last_year, leap, month_length}
use Rattle.licence.specs.declared.Fields.{Fields}
use Rattle.licence.specs.Entry.{fields_of, joined, is_licence}

-- the years that a renewal adds: 0 means 1
unfoldable pub span : ℕ → ℕ
span years = cond (eqb years 0) 1 years

abbrev pub february : ℕ
february = 2

-- the last day of February in a year: the 28th, or the 29th of a leap year
unfoldable pub last_of_february : ℕ → ℕ
last_of_february year = month_length (leap year) february

-- the end is on the last day of February
unfoldable pub ends_on_last_of_february : Fields → Bool
ends_on_last_of_february fields =
    eqb fields.month february && eqb fields.day (last_of_february fields.year)

-- the end's day in a year: the last day of February stays the last, and every other day stays
unfoldable pub kept_day : Fields → ℕ → ℕ
kept_day fields year = cond (ends_on_last_of_february fields) (last_of_february year) fields.day

-- the fields with their end in a year
unfoldable pub later : Fields → ℕ → Fields
later fields year =
    record {
      year = year;
      month = fields.month;
      day = kept_day fields year;
      copies = fields.copies;
      state = fields.state;
    }

-- the most years that a renewal adds
abbrev pub most_years : ℕ
most_years = 10

-- what may be renewed: a licence entry, by at most 10 years, to a year of the calendar
unfoldable pub is_renewable : ℕ → ℕ → Bool
is_renewable entry years =
    is_licence entry && leb years most_years && leb ((fields_of entry).year + span years) last_year

-- the 'entry' renewed, or refused 8, 'no such entry', where it may not be
unfoldable pub renewed_of : ℕ → ℕ → Result ℕ Refusal
renewed_of entry years =
    or_refused (lowest (8 whenever not (is_renewable entry years) ∷ []))
    (joined (later (fields_of entry) ((fields_of entry).year + span years)))
