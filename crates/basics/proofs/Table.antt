-- A table's rule, proved at all of its entries by one test that the checker computes.
--
-- `every` tests each entry against its place; `entry` turns the test into the rule at one place.
-- `every_row` and `row_entry` are the same for a table of rows of one width.
-- Assumes nothing.
use Rattle.basics.proofs.Prelude.{◌≡◌, sym, ap, ◌∙◌, Bool, true, ◌&&◌, List, [], ◌∷◌, length, get_or, ℕ}
use Rattle.basics.proofs.Prelude.{zero, suc, ◌+◌, ◌<◌, not-suc-le-zero, add-zero, zero-add, arith, eqb}
use Rattle.basics.proofs.Prelude.{eqb-true}
use native.Mathlib.Nat.{add-suc, suc-add, le_of_suc-le-suc}
use Rattle.basics.proofs.Cases.{both}

-- each entry is what the rule says of its place, counted from i
abbrev pub every : (ℕ → ℕ) → ℕ → List ℕ → Bool
every rule i [] = true
every rule i (value ∷ values) = eqb value (rule i) && every rule (suc i) values

entry_from : (rule : ℕ → ℕ) (values : List ℕ) (i k : ℕ) → k < length values → every rule i values ≡ true
    → get_or values k 0 ≡ rule (i + k)
entry_from rule [] i k h tested = absurd (not-suc-le-zero h)
entry_from rule (value ∷ values) i zero h tested =
    eqb-true value (rule i) (both (eqb value (rule i)) _ tested).0 ∙ ap rule (sym (add-zero i))
entry_from rule (value ∷ values) i (suc k) h tested =
    entry_from rule values (suc i) k (le_of_suc-le-suc h) (both (eqb value (rule i)) _ tested).1
    ∙ ap rule (suc-add i k ∙ sym (add-suc i k))

pub entry : (rule : ℕ → ℕ) (values : List ℕ) (k : ℕ) → k < length values → every rule 0 values ≡ true
    → get_or values k 0 ≡ rule k
entry rule values k h tested = entry_from rule values 0 k h tested ∙ ap rule (zero-add k)

-- each row has as many entries as the width says, and each entry is what the rule says of its row, counted
-- from i, and place
abbrev pub every_row : (ℕ → ℕ → ℕ) → ℕ → ℕ → List (List ℕ) → Bool
every_row rule width i [] = true
every_row rule width i (row ∷ rows) =
    eqb (length row) width && every (rule i) 0 row && every_row rule width (suc i) rows

row_from : (rule : ℕ → ℕ → ℕ) (width : ℕ) (rows : List (List ℕ)) (base i k : ℕ) → i < length rows → k < width
    → every_row rule width base rows ≡ true → get_or (get_or rows i []) k 0 ≡ rule (base + i) k
row_from rule width [] base i k h q tested = absurd (not-suc-le-zero h)
row_from rule width (row ∷ rows) base zero k h q tested =
    let all = (both (eqb (length row) width && every (rule base) 0 row) _ tested).0 in
    let p = both (eqb (length row) width) (every (rule base) 0 row) all in
    let wide : length row ≡ width = eqb-true _ _ p.0 in
    entry (rule base) row k (omega arith) p.1 ∙ ap (λ (n : ℕ). rule n k) (sym (add-zero base))
row_from rule width (row ∷ rows) base (suc i) k h q tested =
    row_from rule width rows (suc base) i k (le_of_suc-le-suc h) q
    (both (eqb (length row) width && every (rule base) 0 row) _ tested).1
    ∙ ap (λ (n : ℕ). rule n k) (suc-add base i ∙ sym (add-suc base i))

pub row_entry : (rule : ℕ → ℕ → ℕ) (width : ℕ) (rows : List (List ℕ)) (i k : ℕ) → i < length rows → k < width
    → every_row rule width 0 rows ≡ true → get_or (get_or rows i []) k 0 ≡ rule i k
row_entry rule width rows i k h q tested =
    row_from rule width rows 0 i k h q tested ∙ ap (λ (n : ℕ). rule n k) (zero-add i)
