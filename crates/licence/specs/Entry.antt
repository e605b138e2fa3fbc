-- The entry of forty bits (01, section 'Entry and calendar').
--
-- Most significant first: year 12 bits, month 4, day 5, copies 16, state 3. The year, month and day are the
-- licence's last day.
--
-- In order: the places of the fields; splitting and joining; the states; what is a licence entry, the empty
-- entry, and no entry; the answer of joining any fields; a licence for examples.
-- Assumes nothing.
use Rattle.std.specs.Prelude.{ℕ, ◌+◌, ◌^◌, ◌<◌, Bool, cond, not, ◌&&◌, [], ◌∷◌, eqb, leb, ltb, Result}
use Rattle.basics.specs.Fields.{Place, field, placed}
use Rattle.refusal.specs.declared.Refusal.{Refusal}
use Rattle.refusal.specs.Ladder.{◌whenever◌, lowest, or_refused}
use Rattle.calendar.specs.Calendar.{is_date}
use Rattle.licence.specs.declared.Fields.{Fields}
use Rattle.licence.specs.declared.Kind.{Kind}
use Rattle.licence.specs.declared.Kind.TheVariants.{Licence, Empty, Nothing}

-- where each field stands
abbrev pub year_place : Place
year_place = record { width = 12; offset = 28 }

abbrev pub month_place : Place
month_place = record { width = 4; offset = 24 }

abbrev pub day_place : Place
day_place = record { width = 5; offset = 19 }

abbrev pub copies_place : Place
copies_place = record { width = 16; offset = 3 }

abbrev pub state_place : Place
state_place = record { width = 3; offset = 0 }

abbrev pub fields_of : ℕ → Fields
fields_of entry =
    record {
      year = field year_place entry;
      month = field month_place entry;
      day = field day_place entry;
      copies = field copies_place entry;
      state = field state_place entry;
    }

abbrev pub joined : Fields → ℕ
joined fields =
    placed year_place fields.year + placed month_place fields.month + placed day_place fields.day
    + placed copies_place fields.copies + placed state_place fields.state

-- each field is within its width
pub record Narrow (fields : Fields) : Type 0 where
  pub year : fields.year < 2 ^ year_place.width
  pub month : fields.month < 2 ^ month_place.width
  pub day : fields.day < 2 ^ day_place.width
  pub copies : fields.copies < 2 ^ copies_place.width
  pub state : fields.state < 2 ^ state_place.width

-- the states
abbrev pub opened : ℕ
opened = 1

abbrev pub suspended : ℕ
suspended = 2

abbrev pub withdrawn : ℕ
withdrawn = 3

-- fields of a licence: a real date, any copies, one of the states
unfoldable pub is_licensed : Fields → Bool
is_licensed fields =
    is_date fields.year fields.month fields.day && leb opened fields.state
    && leb fields.state withdrawn

-- the bits of an entry: 40
abbrev pub entry_bits : ℕ
entry_bits = year_place.offset + year_place.width

-- a licence entry: forty bits that hold the fields of a licence
unfoldable pub is_licence : ℕ → Bool
is_licence entry = ltb entry (2 ^ entry_bits) && is_licensed (fields_of entry)

-- the empty entry, all bits zero
abbrev pub empty : ℕ
empty = 0

-- a licence entry, the empty entry, or no entry
unfoldable pub kind_of : ℕ → Kind
kind_of entry = cond (is_licence entry) Licence (cond (eqb entry empty) Empty Nothing)

-- the 'entry' of any fields, or refused 8, 'no such entry', where they are not a licence's
unfoldable pub joined_of : Fields → Result ℕ Refusal
joined_of fields = or_refused (lowest (8 whenever not (is_licensed fields) ∷ [])) (joined fields)

-- for examples: an open licence of 40 copies that ends on a date
abbrev pub ending : ℕ → ℕ → ℕ → Fields
ending year month day = record { year = year; month = month; day = day; copies = 40; state = opened }
