-- What a licence entry is: forty bits with the fields of a licence; and joining and splitting are inverse on
-- entries.
--
-- An entry is below 2 ^ 40 (`is_licence_small`) and its fields are a licence's (`entry_fields`), and both
-- make it one (`is_licence_of`). So splitting an entry and joining gives it back (`join_of_split`), and
-- joining gives a licence entry whose fields are those joined (`split_of_join`).
-- Assumes nothing.
use Rattle.basics.proofs.Prelude.{◌≡◌, sym, ap, ◌∙◌, true, ℕ, ◌^◌, ◌<◌, ltb, ltb-true, lt-ltb}
use Rattle.std.specs.Prelude.{Ok, Err}
use Rattle.basics.proofs.Cases.{by_test, both, both_of, clash}
use Rattle.refusal.specs.Numbers.{numbered}
use Rattle.licence.specs.declared.Fields.{Fields}
use Rattle.licence.specs.Entry.{copies_place, entry_bits, fields_of, joined, is_licensed}
use Rattle.licence.specs.Entry.{is_licence, joined_of}
use Rattle.licence.proofs.Licensed.{narrow}
use Rattle.licence.proofs.RoundTrip.{split_join, join_split, joined_small}

pub is_licence_small : (entry : ℕ) → is_licence entry ≡ true → entry < 2 ^ entry_bits
unfolding is_licence
is_licence_small entry p = ltb-true _ _ (both (ltb entry (2 ^ entry_bits)) (is_licensed (fields_of entry)) p).0

pub entry_fields : (entry : ℕ) → is_licence entry ≡ true → is_licensed (fields_of entry) ≡ true
unfolding is_licence
entry_fields entry p = (both (ltb entry (2 ^ entry_bits)) (is_licensed (fields_of entry)) p).1

pub is_licence_of : (entry : ℕ) → entry < 2 ^ entry_bits → is_licensed (fields_of entry) ≡ true
    → is_licence entry ≡ true
unfolding is_licence
is_licence_of entry h p = both_of (ltb entry (2 ^ entry_bits)) (is_licensed (fields_of entry)) (lt-ltb _ _ h) p

-- fields of a licence, joined, are a licence entry
pub joined_licence : (fields : Fields) → is_licensed fields ≡ true → fields.copies < 2 ^ copies_place.width
    → is_licence (joined fields) ≡ true
joined_licence fields p h =
    let n = narrow fields p h in
    is_licence_of (joined fields) (joined_small fields n) (ap is_licensed (split_join fields n) ∙ p)

pub join_of_split : (entry : ℕ) → is_licence entry ≡ true → joined_of (fields_of entry) ≡ Ok entry
unfolding joined_of
join_of_split entry p =
    rw (entry_fields entry p) (ap Ok (join_split entry (is_licence_small entry p)))

-- an answer of joining: the entry, and what it was joined from
pub split_of_join : (fields : Fields) (entry : ℕ) → fields.copies < 2 ^ copies_place.width
    → joined_of fields ≡ Ok entry → (is_licence entry ≡ true) × (fields_of entry ≡ fields)
unfolding joined_of
split_of_join fields entry h p =
    by_test (is_licensed fields)
    (λ yes. let q : Ok (joined fields) ≡ Ok entry = rw yes at p in
    let same : joined fields ≡ entry = cc in (
      sym (ap is_licence same) ∙ joined_licence fields yes h,
      sym (ap fields_of same) ∙ split_join fields (narrow fields yes h),
    ))
    (λ no. let q : Err (numbered 8) ≡ Ok entry = rw no at p in
    clash (cc))
