-- However the input comes in parts, all that the program has written at its end is the text of the lines of
-- the whole input.
--
-- Why: the lines of an input are the whole lines of its first bytes, and then those of the cut line with
-- all that comes behind it; so it is enough to keep the cut line. Of this no more than `most` bytes are
-- needed: it goes on as the first line of the rest, and a line with so many is unreadable with and without
-- the others. Where the input has ended, what is kept is the last line.
-- In order: a text without a line end; the whole lines and the cut one; what is kept of it; the last line;
-- part by part.
-- Assumes nothing.
use Rattle.basics.proofs.Prelude.{◌≡◌, refl, sym, ap, ◌∙◌, true, false, List, [], ◌∷◌, ◌++◌, append_assoc}
use Rattle.basics.proofs.Prelude.{append-nil, length, get_or, take, drop, ℕ, zero, suc, ◌+◌, ◌-◌, arith}
use Rattle.basics.proofs.Prelude.{eqb}
use Rattle.std.specs.Prelude.{None}
use Rattle.basics.proofs.Cases.{by_test, by_list, clash}
use Rattle.script.specs.Grammar.{line_of}
use Rattle.script.specs.Lines.{behind, in_front, lines_by, lines_of, whole_lines, most, newline}
use Rattle.script.specs.Printed.{printed}
use Rattle.script.proofs.Kept.{cut_line_lem}
use Rattle.script.proofs.Split.{last_line}
use Rattle.rehearse.specs.Stage.{Stage, output_of, after, text_of, stage_after}
use Rattle.rehearse.specs.Blocks.{length_of, cut_line, closed, progress, turns, ending, input_of}
use Rattle.rehearse.proofs.Scripts.{text_then}

-- ---- a text without a line end

abbrev Endless : List ℕ → Type 0
Endless text = behind newline text ≡ None

-- its first byte is none, and there is none behind it
endless_rest : (byte : ℕ) (text : List ℕ) → Endless (byte ∷ text) → (eqb byte newline ≡ false) × Endless text
unfolding behind
endless_rest byte text e =
    by_test (eqb byte newline) (λ t. clash (let q = rw t at e in cc)) (λ t. (t, rw t at e))

-- nor is there one in a start of it
endless_take : (n : ℕ) (text : List ℕ) → Endless text → Endless (take n text)
unfolding behind
endless_take zero text e = refl
endless_take (suc n) [] e = refl
endless_take (suc n) (byte ∷ text) e =
    let r = endless_rest byte text e in rw r.0 (endless_take n text r.1)

-- ---- the whole lines and the cut one

-- a byte in front of a text makes the whole lines longer, and not the cut one: where it ends a line, where
-- it is in a whole one
end_passed : (byte n : ℕ) (text : List ℕ) → drop (0 + 1 + n) (byte ∷ text) ≡ drop n text
end_passed byte n text = let e : 0 + 1 + n ≡ suc n = omega arith in ap (λ (k : ℕ). drop k (byte ∷ text)) e

byte_passed : (byte n : ℕ) (line text : List ℕ)
    → drop (length (byte ∷ line) + 1 + n) (byte ∷ text) ≡ drop (length line + 1 + n) text
byte_passed byte n line text =
    let e : length (byte ∷ line) + 1 + n ≡ suc (length line + 1 + n) = omega arith in
    ap (λ (k : ℕ). drop k (byte ∷ text)) e

-- the cut line has no line end
cut_endless : (text : List ℕ) → Endless (cut_line text)
unfolding behind lines_by length_of
cut_endless [] = refl
cut_endless (byte ∷ text) =
    let h = cut_endless text in
    by_test (eqb byte newline) (λ d. rw (d, end_passed) h)
    (λ d. by_list (whole_lines text) (λ e. rw (d, e, d) (rw e at h))
    (λ line lines e. rw (d, e, byte_passed) (rw e at h)))

-- the lines of a text and more are its whole ones, and then those of its cut one and more
cut_lines : (text more : List ℕ) → lines_of (text ++ more) ≡ whole_lines text ++ lines_of (cut_line text ++ more)
unfolding lines_by length_of
cut_lines [] more = refl
cut_lines (byte ∷ text) more =
    let h = cut_lines text more in
    by_test (eqb byte newline) (λ d. rw (d, end_passed) (ap (λ (lines : List (List ℕ)). [] ∷ lines) h))
    (λ d. by_list (whole_lines text) (λ e. rw (d, e, d) refl)
    (λ line lines e. rw (d, e, byte_passed) (ap (in_front true byte) (rw e at h))))

-- ---- what is kept of it

-- a byte goes in front of the first line, if there is one
front_line : (byte : ℕ) (lines : List (List ℕ))
    → in_front true byte lines ≡ (byte ∷ get_or lines 0 []) ∷ drop 1 lines
front_line byte [] = refl
front_line byte (line ∷ lines) = refl

-- so does a text without a line end
led_lines : (byte : ℕ) (text more : List ℕ) → Endless (byte ∷ text)
    → lines_of (byte ∷ text ++ more) ≡ (byte ∷ text ++ get_or (lines_of more) 0 []) ∷ drop 1 (lines_of more)
unfolding lines_by
led_lines byte [] more e = rw (endless_rest byte [] e).0 (front_line byte (lines_of more))
led_lines byte (next ∷ text) more e =
    let r = endless_rest byte (next ∷ text) e in
    rw r.0 (ap (in_front true byte) (led_lines next text more r.1))

-- only what the first line is read as matters
first_alike : (known : Stage) (line other : List ℕ) (lines : List (List ℕ)) → line_of line ≡ line_of other
    → text_of known (line ∷ lines) ≡ text_of known (other ∷ lines)
unfolding text_of
first_alike known line other lines e =
    ap (λ x. printed known.number (output_of known x) ++ text_of (after known x) lines) e

-- cut it is read as it is whole
kept_enough : (known : Stage) (text more : List ℕ) → Endless text
    → text_of known (lines_of (take most text ++ more)) ≡ text_of known (lines_of (text ++ more))
kept_enough known [] more e = refl
kept_enough known (byte ∷ text) more e =
    ap (text_of known) (led_lines byte (take (most - 1) text) more (endless_take most (byte ∷ text) e))
    ∙ first_alike known _ _ (drop 1 (lines_of more)) (cut_line_lem (byte ∷ text) (get_or (lines_of more) 0 []))
    ∙ ap (text_of known) (sym (led_lines byte text more e))

-- ---- the last line

-- with an end it is a whole line
one_line : (text : List ℕ) → Endless text → whole_lines (text ++ newline ∷ []) ≡ text ∷ []
unfolding lines_by
one_line [] e = refl
one_line (byte ∷ text) e =
    let r = endless_rest byte text e in rw r.0 (ap (in_front false byte) (one_line text r.1))

-- and the only line, as without the end
closed_lines : (text : List ℕ) → Endless text → whole_lines (closed text) ≡ lines_of text
unfolding lines_by
closed_lines [] e = refl
closed_lines (byte ∷ text) e = one_line (byte ∷ text) e ∙ sym (last_line byte text e)

-- ---- part by part

-- from what is kept of a line, and what has been written
whole_from : (known : Stage) (cut wrote : List ℕ) (parts : List (List ℕ)) → Endless cut
    → ending (turns (progress known cut wrote) parts) ≡ wrote ++ text_of known (lines_of (cut ++ input_of parts))
unfolding turns input_of
whole_from known cut wrote [] e = cc (closed_lines cut e, append-nil cut)
whole_from known cut wrote (part ∷ parts) e =
    let block : List ℕ = cut ++ part in
    let rest : List ℕ = input_of parts in
    let next : Stage = stage_after known (whole_lines block) in
    let text : List ℕ = text_of known (whole_lines block) in
    let endless = cut_endless block in
    cc (
      whole_from next (take most (cut_line block)) (wrote ++ text) parts
          (endless_take most (cut_line block) endless),
      append_assoc wrote text _,
      kept_enough next (cut_line block) rest endless,
      text_then known (whole_lines block) (lines_of (cut_line block ++ rest)),
      cut_lines block rest,
      append_assoc cut part rest,
    )

-- from the start
pub whole : (known : Stage) (parts : List (List ℕ))
    → ending (turns (progress known [] []) parts) ≡ text_of known (lines_of (input_of parts))
unfolding behind
whole known parts = whole_from known [] [] parts refl
