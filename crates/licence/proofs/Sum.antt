-- Two renewals give what one by the sum gives, unless the end is on 28 February of a leap year (02, C-12).
--
-- Why: an end that is moved to a year and from there to another is where it would be if it were moved there
-- at once (`later_again`). On February's last day it falls on February's last both times. Any other day
-- stays, and is not taken for the last on the way: in February it is at most the 27th (`before_28`), since
-- only 28 February of a leap year is not its own year's last and is another year's. So where the sum stays in
-- the calendar both answers are the same entry (`once_given`, `both_given`); where it passes it, the one
-- renewal is refused, and so is the first or the second of the two (`once_passed`, `twice_passed`).
-- Assumes nothing.
use Rattle.refusal.specs.declared.Refusal.{Refusal}
use Rattle.basics.proofs.Prelude.{◌≡◌, refl, sym, ap, ◌∙◌, true, false, ℕ, ◌+◌, ◌≤◌, ◌<◌, arith, leb}
use Rattle.basics.proofs.Prelude.{eqb-false, eq-eqb, leb-true, leb-false}
use Rattle.std.specs.Prelude.{Result, Ok, Err}
use Rattle.basics.proofs.Cases.{by_test}
use Rattle.refusal.specs.Numbers.{numbered}
use Rattle.calendar.specs.Calendar.{last_year, leap, month_length, is_date}
use Rattle.calendar.proofs.Dates.{Real}
use Rattle.licence.specs.declared.Fields.{Fields}
use Rattle.licence.specs.Entry.{fields_of, joined, is_licensed, is_licence}
use Rattle.licence.specs.Renewal.{span, february, last_of_february, ends_on_last_of_february, kept_day, later}
use Rattle.licence.specs.Renewal.{is_renewable, renewed_of}
use Rattle.licence.specs.Sum.{renewed_again, renewed_twice, ends_on_28_in_leap_year, Lengths, SumLaw}
use Rattle.licence.proofs.Licensed.{licensed}
use Rattle.licence.proofs.Entries.{entry_fields}
use Rattle.licence.proofs.Kept.{span_given, last_in_leap_year, last_in_common_year, last_least}
use Rattle.licence.proofs.Kept.{last_parts, last_of, not_last, before_last, last_stays, day_stays}
use Rattle.licence.proofs.Renewed.{Renewable, allowed_renewed, refused_unless, same_fields, is_renewed}

-- an end in another year, and from there in another
module _ (fields : Fields) (bounds : Real fields.year fields.month fields.day)
    (other : ends_on_28_in_leap_year fields ≡ false) where
  before_28 : ends_on_last_of_february fields ≡ false → fields.month ≡ february → fields.day < 28
  unfolding ends_on_28_in_leap_year
  before_28 f m =
      let before = before_last fields bounds f m in
      by_test (leap fields.year)
      (λ l. let not_28 = eqb-false fields.day 28 (rw (l, eq-eqb fields.month february m) at other) in
      omega (arith, before, last_in_leap_year fields.year l))
      (λ l. omega (arith, before, last_in_common_year fields.year l))

  module _ (year next : ℕ) where
    last_again : ends_on_last_of_february fields ≡ true → ends_on_last_of_february (later fields year) ≡ true
    unfolding later
    last_again t = last_of (later fields year) ((last_parts fields t).0, last_stays fields year t)

    not_last_again : ends_on_last_of_february fields ≡ false → ends_on_last_of_february (later fields year) ≡ false
    unfolding later
    not_last_again f =
        let kept = day_stays fields year f in
        not_last (later fields year) (λ p. omega (arith, kept, before_28 f p.0, p.1, last_least year))

    kept_again : kept_day (later fields year) next ≡ kept_day fields next
    unfolding later
    kept_again =
        by_test (ends_on_last_of_february fields)
        (λ t. last_stays (later fields year) next (last_again t) ∙ sym (last_stays fields next t))
        (λ f. day_stays (later fields year) next (not_last_again f) ∙ day_stays fields year f
        ∙ sym (day_stays fields next f))

    later_again : later (later fields year) next ≡ later fields next
    unfolding later
    later_again =
        λ i. record {
          year = next;
          month = fields.month;
          day = kept_again i;
          copies = fields.copies;
          state = fields.state;
        }

module _ (entry first second : ℕ) (is : is_licence entry ≡ true) (lengths : Lengths first second) where
  abbrev fields : Fields
  fields = fields_of entry

  -- none of the lengths is 0
  span_first : span first ≡ first
  span_first = span_given first lengths.first_least

  span_second : span second ≡ second
  span_second = span_given second lengths.second_least

  span_sum : span (first + second) ≡ first + second
  span_sum = span_given (first + second) (omega (arith, lengths.first_least))

  -- the one renewal: it is allowed up to the last year
  once_given : fields.year + (first + second) ≤ last_year
      → renewed_of entry (first + second)
      ≡ Ok (joined (later fields (fields.year + (first + second))))
  once_given reached =
      allowed_renewed entry (first + second)
      (record { licence = is; years_most = lengths.sum_most; year_most = omega (arith, reached, span_sum) })
      ∙ ap (λ (years : ℕ). Ok (joined (later fields (fields.year + years)))) span_sum

  once_passed : last_year < fields.year + (first + second)
      → renewed_of entry (first + second) ≡ Err (numbered 8)
  once_passed h = refused_unless entry (first + second) (λ r. omega (arith, r.year_most, span_sum))

  -- the first renewal stays in the calendar
  module _ (within : fields.year + first ≤ last_year) where
    -- its entry
    abbrev between : ℕ
    between = joined (later fields (fields.year + span first))

    first_allowed : Renewable entry first
    first_allowed =
        record {
          licence = is;
          years_most = omega (arith, lengths.sum_most);
          year_most = omega (arith, span_first);
        }

    then_second : renewed_twice entry first second ≡ renewed_of between second
    then_second =
        ap (λ (answer : Result ℕ Refusal). renewed_again answer second) (allowed_renewed entry first first_allowed)

    between_year : (fields_of between).year ≡ fields.year + first
    between_year =
        (is_renewed entry first first_allowed).year ∙ ap (λ (years : ℕ). fields.year + years) span_first

    second_passed : last_year < fields.year + (first + second)
        → renewed_of between second ≡ Err (numbered 8)
    second_passed h =
        refused_unless between second (λ r. omega (arith, r.year_most, between_year, span_second))

    -- so does the second
    module _ (reached : fields.year + (first + second) ≤ last_year)
        (other : ends_on_28_in_leap_year fields ≡ false) where
      second_allowed : Renewable between second
      second_allowed =
          record {
            licence = (is_renewed entry first first_allowed).licence;
            years_most = omega (arith, lengths.sum_most);
            year_most = omega (arith, reached, between_year, span_second);
          }

      same_end : later (fields_of between) ((fields_of between).year + span second)
          ≡ later fields (fields.year + (first + second))
      unfolding later
      same_end =
          ap (λ (f : Fields). later f (f.year + span second)) (same_fields entry first first_allowed)
          ∙ later_again fields (licensed fields (entry_fields entry is)).date other _ _
          ∙ ap (later fields) (omega (arith, span_first, span_second))

      both_given : renewed_twice entry first second ≡ renewed_of entry (first + second)
      both_given =
          then_second ∙ allowed_renewed between second second_allowed
          ∙ ap (λ (f : Fields). Ok (joined f)) same_end
          ∙ sym (once_given reached)

  twice_passed : last_year < fields.year + (first + second)
      → renewed_twice entry first second ≡ Err (numbered 8)
  twice_passed h =
      by_test (leb (fields.year + first) last_year)
      (λ t. let within = leb-true _ _ t in then_second within ∙ second_passed within h)
      (λ f. ap (λ (answer : Result ℕ Refusal). renewed_again answer second)
      (refused_unless entry first
      (λ r. let beyond : last_year < fields.year + first = leb-false _ _ f in
      omega (arith, r.year_most, span_first))))

  adds : ends_on_28_in_leap_year fields ≡ false
      → renewed_twice entry first second ≡ renewed_of entry (first + second)
  adds other =
      by_test (leb (fields.year + (first + second)) last_year)
      (λ t. let reached = leb-true _ _ t in both_given (omega (arith, reached)) reached other)
      (λ f. let beyond = leb-false _ _ f in twice_passed beyond ∙ sym (once_passed beyond))

pub sum_law : SumLaw
unfolding leap month_length is_date is_licensed is_licence
    span last_of_february ends_on_last_of_february kept_day later is_renewable renewed_of
sum_law =
    record {
      sum = adds;
      reached = once_given;
      passed = λ entry first second is lengths h.
          (twice_passed entry first second is lengths h, once_passed entry first second is lengths h);
      by_1_and_3 = refl;
      by_4 = refl;
    }
