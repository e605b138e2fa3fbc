-- A line that is a letter, a blank, a number, a blank and more: K, D or L.
--
-- Why: behind the letter and the blank, and behind the number and its blank, the line goes on as from there
-- (`Rest`). So it ends where its rest does, and its letter says what the number and the rest mean.
-- Assumes nothing.
use Rattle.basics.proofs.Prelude.{◌≡◌, refl, ap, ◌∙◌, false, List, ◌∷◌, length, get_or, drop, ℕ, ◌+◌, ◌-◌, ◌≤◌}
use Rattle.basics.proofs.Prelude.{arith, eqb, le-leb}
use Rattle.std.specs.Prelude.{Option, Some}
use Rattle.register.specs.declared.Step.TheVariants.{K, D}
use Rattle.script.specs.declared.next.Found.{Found}
use Rattle.script.specs.declared.parse.Line.{Line}
use Rattle.script.specs.declared.parse.Line.TheVariants.{Do}
use Rattle.script.specs.Lines.{up_to, part, line_end, newline}
use Rattle.script.specs.Grammar.{number_then, numbers_then, number_line, number_after}
use Rattle.script.specs.Grammar.{message_after, arguments_of, line_of}
use Rattle.script.specs.Next.{found_at, rest_at, Short, Lie}
use Rattle.script.proofs.Found.{line_is}
use Rattle.script.proofs.Rest.{then_number, then_ends, last_number_lem, last_ends, last_few}
use Rattle.script.proofs.Short.{one_byte}

module _
    (text : List ℕ) (at k next : ℕ) (room : at + 8 ≤ length text) (blank : get_or text (at + 1) 0 ≡ 32)
    (first : Short text (at + 2) 32 k next)
  where
    abbrev letter : ℕ
    letter = get_or text at 0

    -- what stands behind the letter and the blank
    abbrev rest : List ℕ
    rest = rest_at text (at + 2)

    line : eqb letter newline ≡ false → rest_at text at ≡ letter ∷ 32 ∷ rest
    unfolding up_to
    line differs =
        let two : at + 1 + 1 ≡ at + 2 = omega arith in
        let bytes : drop at text ≡ letter ∷ 32 ∷ drop (at + 2) text = cc (
          one_byte text at (omega arith),
          one_byte text (at + 1) (omega arith),
          blank,
          two,
        ) in
        rw (bytes, differs) refl

    found : eqb letter newline ≡ false → (end : ℕ) (told : Option Line) → line_end text next ≡ end → end ≤ next + 25
        → arguments_of letter rest ≡ told → found_at text at ≡ record { end = end; line = told }
    unfolding line_of
    found differs end told e few is =
        let long : length (rest_at text at) ≡ 2 + length rest = ap length (line differs) ∙ omega arith in
        let same = then_ends first in
        let back = first.behind in
        let short = first.few in
        let ends : line_end text at ≡ end = omega arith in
        let whole : List ℕ = letter ∷ 32 ∷ rest in
        let says : line_of (part text at (line_end text at)) ≡ told =
        ap line_of (line_is text at ∙ line differs)
        ∙ rw (le-leb 3 (length whole) (omega arith), le-leb (length whole) 64 (omega arith)) is in
        λ i. record { end = ends i; line = says i }

    module _ (d last : ℕ) (second : Short text next newline d last) where
      found_two : (byte : ℕ) → letter ≡ byte → eqb byte newline ≡ false
          → arguments_of byte rest ≡ number_then rest (number_after byte)
          → found_at text at ≡ record { end = last - 1; line = number_line byte k d }
      found_two byte e differs says =
          found (rw e differs) (last - 1) (number_line byte k d) (last_ends second)
          (omega (arith, last_few second))
          (rw e (says ∙ then_number first (number_after byte) ∙ rw (last_number_lem second) refl))

      pub found_k : letter ≡ 75 → found_at text at ≡ record { end = last - 1; line = Some (Do (K k d)) }
      unfolding arguments_of numbers_then
      found_k e = found_two 75 e refl refl

      pub found_d : letter ≡ 68 → found_at text at ≡ record { end = last - 1; line = Some (Do (D k d)) }
      unfolding arguments_of numbers_then
      found_d e = found_two 68 e refl refl

    pub found_l : letter ≡ 76 → (answer : Found) → Lie text k next answer → found_at text at ≡ answer
    unfolding arguments_of numbers_then
    found_l e answer lie =
        found (rw e refl) answer.end answer.line lie.ends lie.few
        (rw e (then_number first (λ k rest. number_then rest (message_after k)) ∙ lie.says))
