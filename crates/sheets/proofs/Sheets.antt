-- The marked sheets hold: each is computed from the definitions.
-- Assumes nothing.
use mathlib.Core.Path.{refl}
use Rattle.calendar.specs.Calendar.{leap, year_length, first_day, month_length}
use Rattle.calendar.specs.Calendar.{days_before, is_date, day_of, day_number}
use Rattle.licence.specs.Entry.{is_licensed, is_licence, kind_of, joined_of}
use Rattle.licence.specs.Renewal.{span, last_of_february, ends_on_last_of_february, kept_day, later}
use Rattle.licence.specs.Renewal.{is_renewable, renewed_of}
use Rattle.licence.specs.Verdict.{days_left, verdict_by, verdict_of}
use Rattle.basics.specs.Bytes.{big_endian}
use Rattle.basics.specs.Counting.{count_below}
use Rattle.message.specs.Pair.{counter, client, entry, stamp, pair_of}
use Rattle.message.specs.Layout.{number_of}
use Rattle.register.specs.PairSet.{insert, add, has}
use Rattle.register.specs.Client.{is_at_most, not_old, valid, counts}
use Rattle.sheets.specs.Sheets.{Entries, Days, Messages, Counting, Sheets}

entries : Entries
unfolding leap month_length is_date is_licensed is_licence kind_of joined_of
    span last_of_february ends_on_last_of_february kept_day later is_renewable renewed_of
entries =
    record {
      packed = refl;
      other_year = refl;
      renewed_by_1 = refl;
      renewed_by_4 = refl;
      last_renewed = refl;
      not_last_renewed = refl;
    }

days : Days
unfolding leap year_length first_day month_length days_before is_date day_of day_number
    is_licensed is_licence days_left verdict_by verdict_of
days = record { leap_day = refl; last_day = refl; left_after = refl; verdict_after = refl }

messages : Messages
unfolding big_endian counter client entry pair_of number_of
messages = record { write_info = refl }

counting : Counting
unfolding count_below stamp pair_of insert add has is_at_most not_old valid counts
counting = record { two_sets = refl; newer_noted = refl; one_set = refl; adding_4 = refl; adding_2 = refl }

pub sheets : Sheets
sheets = record { entries = entries; days = days; messages = messages; counting = counting }
