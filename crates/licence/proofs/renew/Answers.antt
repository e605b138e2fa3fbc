-- `renew`: the refusals are the definition's, in its order; a licence's fields stay within their widths in a
-- year up to the last.
-- Assumes nothing.
use Rattle.basics.proofs.Prelude.{◌≡◌, sym, ap, ◌∙◌, subst, ℕ, ◌+◌, arith, le-leb, lt-leb, rules}
use Rattle.std.specs.Prelude.{Ok}
use Rattle.calendar.specs.Calendar.{last_year}
use Rattle.licence.specs.declared.Fields.{Fields}
use Rattle.licence.specs.Entry.{fields_of, joined, is_licensed, Narrow}
use Rattle.licence.specs.Renewal.{span, most_years, is_renewable, renewed_of}
use Rattle.licence.proofs.Entries.{entry_fields}
use Rattle.licence.proofs.Renewed.{later_narrow}
use Rattle.licence.proofs.renew.Goals as goal

-- the code's year is the definition's
same_year : (fields : Fields) (entry years added : ℕ) → fields ≡ fields_of entry → added ≡ span years
    → fields.year + added ≡ (fields_of entry).year + span years
same_year fields entry years added split spans = cc

pub returns-then-not-is_licence : goal.returns-then-not-is_licence
unfolding renewed_of is_renewable
returns-then-not-is_licence c = simp (sym c.is_licence.ensures ∙ c.if-not-is_licence.true)

pub returns-then-years-gt-MOST_YEARS : goal.returns-then-years-gt-MOST_YEARS
unfolding renewed_of is_renewable
returns-then-years-gt-MOST_YEARS c =
    simp (
      sym c.is_licence.ensures ∙ c.if-not-is_licence.false,
      lt-leb c.args.years most_years (omega arith),
    )

pub returns-then-year-gt-LAST_YEAR : goal.returns-then-year-gt-LAST_YEAR
unfolding renewed_of is_renewable
returns-then-year-gt-LAST_YEAR c =
    let year = same_year _ _ _ _ c.split-fields.ensures c.years_added.ensures in
    simp (
      sym c.is_licence.ensures ∙ c.if-not-is_licence.false,
      le-leb c.args.years most_years (omega arith),
      lt-leb ((fields_of c.args.entry).year + span c.args.years) last_year (omega (arith, year)),
    )

pub packed-requires : goal.packed-requires
packed-requires c =
    let licence = sym c.is_licence.ensures ∙ c.if-not-is_licence.false in
    let licensed = ap is_licensed c.split-fields.ensures ∙ entry_fields _ licence in
    subst (λ (f : Fields). Narrow f) (sym c.moved.ensures)
    (later_narrow _ _ licensed (omega arith) (omega arith) (search rules))

pub returns : goal.returns
unfolding renewed_of is_renewable
returns c =
    let split = c.split-fields.ensures in
    let year = same_year _ _ _ _ split c.years_added.ensures in
    simp (
      sym c.is_licence.ensures ∙ c.if-not-is_licence.false,
      le-leb c.args.years most_years (omega arith),
      le-leb ((fields_of c.args.entry).year + span c.args.years) last_year (omega (arith, year)),
    )
    (ap Ok (c.packed.ensures ∙ ap joined (c.moved.ensures ∙ cc (year, split))))
