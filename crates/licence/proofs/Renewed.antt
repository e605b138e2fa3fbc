-- The laws of renewal that callers go by.
--
-- A licence's fields, moved to a year of the calendar, are a licence's (`later_licensed`): the date stays
-- real (`Kept`) and the state is kept. So a renewed licence is a licence entry whose year is later by the
-- span, with month, copies and state kept and the day by the rule (`renewed`). What may not be renewed is
-- refused, and nothing else (`renewed_when`, `refused_when`; by bounds `allowed_renewed`, `refused_unless`).
-- Assumes nothing.
use Rattle.basics.proofs.Prelude.{◌≡◌, ap, subst, true, false, ◌&&◌, ℕ, ◌+◌, ◌^◌, ◌≤◌, ◌<◌, arith, leb}
use Rattle.basics.proofs.Prelude.{leb-true, le-leb}
use Rattle.std.specs.Prelude.{Ok, Err}
use Rattle.basics.proofs.Cases.{by_test, both, clash}
use Rattle.refusal.specs.Numbers.{numbered}
use Rattle.calendar.specs.Calendar.{last_year}
use Rattle.licence.specs.declared.Fields.{Fields}
use Rattle.licence.specs.Entry.{copies_place, fields_of, joined, is_licensed, is_licence, Narrow}
use Rattle.licence.specs.Renewal.{span, kept_day, later, most_years, is_renewable, renewed_of}
use Rattle.licence.proofs.Licensed.{licensed, licensed_of, narrow}
use Rattle.licence.proofs.RoundTrip.{fields_narrow, split_join}
use Rattle.licence.proofs.Entries.{entry_fields, joined_licence}
use Rattle.licence.proofs.Kept.{kept_real}

-- the fields of a licence in another year
module _ (fields : Fields) (year : ℕ) (p : is_licensed fields ≡ true) (grows : fields.year ≤ year)
    (most : year ≤ last_year) where
  pub later_licensed : is_licensed (later fields year) ≡ true
  unfolding later
  later_licensed =
      let bounds = licensed fields p in
      licensed_of (later fields year)
      record {
        date = kept_real fields year bounds.date (omega (arith, bounds.date.year_least)) most;
        state_least = bounds.state_least;
        state_most = bounds.state_most;
      }

  pub later_narrow : fields.copies < 2 ^ copies_place.width → Narrow (later fields year)
  unfolding later
  later_narrow h = narrow (later fields year) later_licensed h

-- what may be renewed
pub record Renewable (entry years : ℕ) : Type 0 where
  pub licence : is_licence entry ≡ true
  pub years_most : years ≤ most_years
  pub year_most : (fields_of entry).year + span years ≤ last_year

-- what the renewed entry is
pub record Renewed (entry years result : ℕ) : Type 0 where
  pub renewable : Renewable entry years
  pub licence : is_licence result ≡ true
  pub year : (fields_of result).year ≡ (fields_of entry).year + span years
  pub month : (fields_of result).month ≡ (fields_of entry).month
  pub day : (fields_of result).day ≡ kept_day (fields_of entry) ((fields_of entry).year + span years)
  pub copies : (fields_of result).copies ≡ (fields_of entry).copies
  pub state : (fields_of result).state ≡ (fields_of entry).state

module _ (entry years : ℕ) where
  -- the renewed entry's fields
  abbrev moved : Fields
  moved = later (fields_of entry) ((fields_of entry).year + span years)

  pub renewable : is_renewable entry years ≡ true → Renewable entry years
  unfolding is_renewable
  renewable t =
      let p = both (is_licence entry && leb years most_years) _ t in
      let q = both (is_licence entry) (leb years most_years) p.0 in
      record { licence = q.0; years_most = leb-true _ _ q.1; year_most = leb-true _ _ p.1 }

  pub renewed_when : is_renewable entry years ≡ true → renewed_of entry years ≡ Ok (joined moved)
  unfolding renewed_of
  renewed_when t = rw t

  pub refused_when : is_renewable entry years ≡ false → renewed_of entry years ≡ Err (numbered 8)
  unfolding renewed_of
  refused_when f = rw f

  pub refused_unless : (Renewable entry years → ⊥) → renewed_of entry years ≡ Err (numbered 8)
  refused_unless h = by_test (is_renewable entry years) (λ t. absurd (h (renewable t))) refused_when

  module _ (allowed : Renewable entry years) where
    pub allowed_renewed : renewed_of entry years ≡ Ok (joined moved)
    unfolding is_renewable
    allowed_renewed =
        renewed_when
        (rw (allowed.licence, le-leb _ _ allowed.years_most, le-leb _ _ allowed.year_most))

    moved_licensed : is_licensed moved ≡ true
    moved_licensed =
        later_licensed (fields_of entry) _ (entry_fields entry allowed.licence) (omega arith)
        allowed.year_most

    moved_copies : moved.copies < 2 ^ copies_place.width
    unfolding later
    moved_copies = (fields_narrow entry).copies

    pub same_fields : fields_of (joined moved) ≡ moved
    same_fields = split_join moved (narrow moved moved_licensed moved_copies)

    pub is_renewed : Renewed entry years (joined moved)
    unfolding later
    is_renewed =
        record {
          renewable = allowed;
          licence = joined_licence moved moved_licensed moved_copies;
          year = ap (λ (fields : Fields). fields.year) same_fields;
          month = ap (λ (fields : Fields). fields.month) same_fields;
          day = ap (λ (fields : Fields). fields.day) same_fields;
          copies = ap (λ (fields : Fields). fields.copies) same_fields;
          state = ap (λ (fields : Fields). fields.state) same_fields;
        }

  pub renewed : (result : ℕ) → renewed_of entry years ≡ Ok result → Renewed entry years result
  renewed result given =
      by_test (is_renewable entry years)
      (λ t. let b = renewed_when t in
      let same : joined moved ≡ result = cc in
      subst (λ (n : ℕ). Renewed entry years n) same (is_renewed (renewable t)))
      (λ f. let b = refused_when f in clash (cc))
