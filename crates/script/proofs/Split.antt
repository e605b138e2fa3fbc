-- A script read line by line: the first line is what stands before the first line end, and the others are
-- those of what stands behind it; where there is no line end, what is left is the last line, and there is no
-- whole one.
-- Assumes nothing.
use Rattle.basics.proofs.Prelude.{◌≡◌, refl, ap, Bool, true, false, List, [], ◌∷◌, ℕ, eqb}
use Rattle.std.specs.Prelude.{Some, None}
use Rattle.basics.proofs.Cases.{by_test, clash}
use Rattle.script.specs.Lines.{up_to, behind, in_front, lines_by, lines_of, whole_lines, newline}

-- of the lines of a script and of the whole lines of a text alike
pub first_line : (unended : Bool) (text rest : List ℕ) → behind newline text ≡ Some rest
    → lines_by unended text ≡ up_to newline text ∷ lines_by unended rest
unfolding up_to behind lines_by
first_line unended [] rest e = clash cc
first_line unended (byte ∷ text) rest e =
    by_test (eqb byte newline) (λ t. let is : text ≡ rest = let q = rw t at e in cc in
    rw t (ap (λ (l : List ℕ). [] ∷ lines_by unended l) is))
    (λ t. rw t (ap (in_front unended byte) (first_line unended text rest (rw t at e))))

pub last_line : (byte : ℕ) (text : List ℕ) → behind newline (byte ∷ text) ≡ None
    → lines_of (byte ∷ text) ≡ (byte ∷ text) ∷ []
unfolding behind lines_by
last_line byte [] e = by_test (eqb byte newline) (λ t. let q = rw t at e in clash cc) (λ t. rw t refl)
last_line byte (next ∷ text) e =
    by_test (eqb byte newline) (λ t. let q = rw t at e in clash cc)
    (λ t. rw t (ap (in_front true byte) (last_line next text (rw t at e))))

pub no_whole : (text : List ℕ) → behind newline text ≡ None → whole_lines text ≡ []
unfolding behind lines_by
no_whole [] e = refl
no_whole (byte ∷ text) e =
    by_test (eqb byte newline) (λ t. let q = rw t at e in clash cc)
    (λ t. rw t (ap (in_front false byte) (no_whole text (rw t at e))))
