-- What stands in a text from a place on.
--
-- In order: the line from a place up to its end; what is found behind the text.
-- Assumes nothing.
use Rattle.basics.proofs.Prelude.{◌≡◌, sym, ap, ◌∙◌, List, length, take, drop, length-drop, ℕ, ◌+◌, ◌-◌}
use Rattle.basics.proofs.Prelude.{◌≤◌, ◌<◌, add-zero, arith}
use lib.ListN.{drop_of_length-le}
use lib.Seq.{take-nil}
use Rattle.std.specs.Prelude.{None}
use Rattle.script.specs.Lines.{up_to, part, line_end, newline}
use Rattle.script.specs.Grammar.{line_of}
use Rattle.script.specs.Next.{found_at}
use Rattle.script.proofs.Places.{up_to_take, up_to_short}
use Rattle.script.proofs.Readers.{rest_is}

-- ---- the line from a place up to its end

pub line_is : (text : List ℕ) (at : ℕ) → part text at (line_end text at) ≡ up_to newline (drop at text)
line_is text at =
    let rest : List ℕ = drop at text in
    let far : at + length (up_to newline rest) - at ≡ length (up_to newline rest) = omega arith in
    ap (λ (n : ℕ). take n rest) far ∙ up_to_take newline rest

end_within : (text : List ℕ) (at : ℕ) → at ≤ length text → line_end text at ≤ length text
end_within text at h =
    let short = up_to_short newline (drop at text) in
    let wide = length-drop at text in
    omega arith

-- from what `place_of` answers of the text from there on
module _
    (text : List ℕ) (at count : ℕ)
    (is : count ≡ length (up_to newline (take (length text - at) (drop at text))))
  where
    pub line_ends : at + count ≡ line_end text at
    line_ends = cc (is, rest_is text at)

    pub ends_within : at < length text → at + count ≤ length text
    ends_within h = rw line_ends (end_within text at (omega arith))

-- ---- what was found

-- behind the text stands nothing
pub none_found : (text : List ℕ) (at : ℕ) → length text ≤ at
    → record { end = at; line = None } ≡ found_at text at
unfolding up_to line_of
none_found text at h =
    rw (drop_of_length-le text h, take-nil) (λ i. record { end = sym (add-zero at) i; line = None })
