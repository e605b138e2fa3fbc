-- A script in parts: lines behind lines, and the next line of a block.
--
-- What the program prints for a script is what it prints for the first lines and then, from what it knows
-- after them, for the others. So it does not matter in how many turns the lines are obeyed.
-- Assumes nothing.
use Rattle.basics.proofs.Prelude.{◌≡◌, refl, false, List, [], ◌∷◌, ◌++◌, append_assoc, append-nil, length}
use Rattle.basics.proofs.Prelude.{drop, length-drop, ℕ, suc, ◌+◌, ◌-◌, ◌≤◌, ◌<◌, arith}
use lib.ListN.{length-take}
use lib.Seq.{drop-drop}
use Rattle.script.specs.Grammar.{line_of}
use Rattle.script.specs.Lines.{up_to, part, line_end, whole_lines, newline}
use Rattle.script.specs.Printed.{printed}
use Rattle.script.proofs.Places.{up_to_take, behind_some, behind_none}
use Rattle.script.proofs.Split.{first_line, no_whole}
use Rattle.rehearse.specs.Stage.{Stage, output_of, after, text_of, stage_after}
use Rattle.rehearse.specs.Blocks.{length_of}

-- ---- lines behind lines

pub stage_then : (known : Stage) (lines more : List (List ℕ))
    → stage_after known (lines ++ more) ≡ stage_after (stage_after known lines) more
unfolding stage_after
stage_then known [] more = refl
stage_then known (line ∷ lines) more = stage_then (after known (line_of line)) lines more

pub text_then : (known : Stage) (lines more : List (List ℕ))
    → text_of known (lines ++ more) ≡ text_of known lines ++ text_of (stage_after known lines) more
unfolding text_of stage_after
text_then known [] more = refl
text_then known (line ∷ lines) more =
    let next : Stage = after known (line_of line) in
    let text : List ℕ = printed known.number (output_of known (line_of line)) in
    cc (
      text_then next lines more,
      append_assoc text (text_of next lines) (text_of (stage_after next lines) more),
    )

-- one line more
pub stage_more : (known : Stage) (lines : List (List ℕ)) (line : List ℕ)
    → stage_after known (lines ++ line ∷ []) ≡ after (stage_after known lines) (line_of line)
unfolding stage_after
stage_more known lines line = stage_then known lines (line ∷ [])

pub text_more : (known : Stage) (lines : List (List ℕ)) (line : List ℕ)
    → text_of known (lines ++ line ∷ [])
    ≡ text_of known lines
    ++ printed (stage_after known lines).number (output_of (stage_after known lines) (line_of line))
unfolding text_of
text_more known lines line =
    cc (
      text_then known lines (line ∷ []),
      append-nil (printed (stage_after known lines).number (output_of (stage_after known lines) (line_of line))),
    )

pub length_more : (lines : List (List ℕ)) (line : List ℕ)
    → length_of (lines ++ line ∷ []) ≡ length_of lines + (length line + 1)
unfolding length_of
length_more [] line = omega arith
length_more (first ∷ lines) line = let more = length_more lines line in omega arith

-- ---- the next line of a block

module _ (input : List ℕ) (at end : ℕ) (inside : at ≤ length input) (e : end ≡ line_end input at) where
  abbrev rest : List ℕ
  rest = drop at input

  long : length rest ≡ length input - at
  long = length-drop at input

  pub next_line : end < length input → whole_lines rest ≡ part input at end ∷ whole_lines (drop (end + 1) input)
  next_line less =
      let n : ℕ = length (up_to newline rest) in
      let wide = long in
      let here : end - at ≡ n = omega arith in
      let more : at + suc n ≡ end + 1 = omega arith in
      cc (
        first_line false rest (drop (suc n) rest) (behind_some newline rest (omega arith)),
        up_to_take newline rest,
        here,
        drop-drop (suc n) at input,
        more,
      )

  pub line_length : end < length input → at + (length (part input at end) + 1) ≡ end + 1
  line_length less = let wide = long in rw (length-take (end - at) rest, wide) (omega arith)

  pub no_line : length input ≤ end → whole_lines rest ≡ []
  no_line far = let wide = long in no_whole rest (behind_none newline rest (omega arith))
