-- What a line is, from what its readers answered.
--
-- A reader answers a value or that there is none; the definition of a line goes by the same cases.
-- Assumes nothing.
use Rattle.basics.proofs.Prelude.{◌≡◌, refl, sym, ap, ◌∙◌, subst, List, length, take, drop}
use Rattle.basics.proofs.Prelude.{length-drop, ℕ, zero, suc, ◌+◌, ◌-◌, ◌≤◌, ◌<◌, le_refl, not-suc-le-zero}
use Rattle.basics.proofs.Prelude.{add-one, arith}
use Rattle.std.specs.Prelude.{Option, Some, None}
use Rattle.script.specs.declared.parse.Line.{Line}
use Rattle.script.specs.declared.parse.First.{First}
use Rattle.script.specs.Numbers.{number_in}
use Rattle.script.specs.Lines.{up_to, behind}
use Rattle.script.specs.Grammar.{◌>>=◌, number_then, numbers_then, Cut}
use Rattle.script.proofs.Places.{up_to_take, behind_some, behind_none}
use lib.Seq.{take_all, drop-drop}

-- the text from a place on, as a part of the slice
pub rest_is : (text : List ℕ) (at : ℕ) → take (length text - at) (drop at text) ≡ drop at text
rest_is text at =
    take_all (length text - at) (drop at text) (rw (length-drop at text) (le_refl (length text - at)))

-- ---- the numbers before the last argument

-- one is read, and the others behind it
one_ahead : (numbers earliest earlier later : ℕ) (text : List ℕ) (line : ℕ → ℕ → ℕ → List ℕ → Option Line)
    → 0 < numbers
    → number_then text (λ value rest. numbers_then (numbers - 1) earlier later value rest line)
    ≡ numbers_then numbers earliest earlier later text line
unfolding numbers_then
one_ahead zero earliest earlier later text line h = absurd (not-suc-le-zero h)
one_ahead (suc n) earliest earlier later text line h =
    let one_less : suc n - 1 ≡ n = omega arith in
    ap (λ (left : ℕ). number_then text (λ value rest. numbers_then left earlier later value rest line)) one_less

-- what was read at a place
module _
    (text : List ℕ) (at : ℕ) {answer : Option First} (cut : Cut answer (take (length text - at) (drop at text)))
  where
    there : (variant : Option First) → answer ≡ variant → Cut variant (drop at text)
    there variant is = subst (λ (told : Option First). Cut told (drop at text)) is (rw (rest_is text at) at cut)

    pub starts_within : (first : First) → answer ≡ Some first → at ≤ length text
        → at + first.next ≤ length text
    starts_within first is h =
        let inside : first.next ≤ length (drop at text) = (there (Some first) is).within in
        omega (arith, length-drop at text)

    -- of the numbers that make the line, some are left
    module _
        (numbers earliest earlier later : ℕ) (line : ℕ → ℕ → ℕ → List ℕ → Option Line) (whole : Option Line)
        (makes : numbers_then numbers earliest earlier later (drop at text) line ≡ whole) (left : 0 < numbers)
      where
        abbrev others : ℕ → List ℕ → Option Line
        others value rest = numbers_then (numbers - 1) earlier later value rest line

        read_as : (variant : Option First) → answer ≡ variant
            → (variant >>= λ first. others first.value (drop first.next (drop at text))) ≡ whole
        read_as variant is =
            (there variant is).means others
            ∙ one_ahead numbers earliest earlier later (drop at text) line left ∙ makes

        pub none_read : answer ≡ None → None ≡ whole
        none_read is = read_as None is

        pub one_read : (first : First) → answer ≡ Some first
            → numbers_then (numbers - 1) earlier later first.value (drop (at + first.next) text) line ≡ whole
        one_read first is =
            ap (others first.value) (sym (drop-drop first.next at text)) ∙ read_as (Some first) is

-- none is left
pub all_read : (text : List ℕ) (at numbers earliest earlier later : ℕ) (line : ℕ → ℕ → ℕ → List ℕ → Option Line)
    (whole last : Option Line) → numbers_then numbers earliest earlier later (drop at text) line ≡ whole → numbers ≤ 0
    → last ≡ line earliest earlier later (take (length text - at) (drop at text)) → last ≡ whole
unfolding numbers_then
all_read text at numbers earliest earlier later line whole last makes none is =
    let zero : numbers ≡ 0 = omega arith in
    is ∙ ap (line earliest earlier later) (rest_is text at) ∙ (rw zero at makes)

-- the first word of a text ends at a place
module _ (text : List ℕ) (end : ℕ) (ends : end ≡ length (up_to 32 text)) where
  -- at the text's end: there is no blank
  pub cut_none : length text ≤ end → Cut None text
  cut_none h = record { within = omega arith; means = λ line. rw (behind_none 32 text (omega arith)) refl }

  module _
      (inside : end < length text) (answer : Option ℕ) (means : answer ≡ number_in (take end text))
    where
      -- behind the blank stands the rest, and the number is that of the first word
      split : (line : ℕ → List ℕ → Option Line)
          → number_then text line ≡ (answer >>= λ value. line value (drop (end + 1) text))
      split line =
          let word : take end text ≡ up_to 32 text = rw ends (up_to_take 32 text) in
          let rest : behind 32 text ≡ Some (drop (end + 1) text) =
          rw (ends, add-one) (behind_some 32 text (omega arith)) in
          rw (rest, ← word, ← means) refl

      pub cut_at : (value : ℕ) → answer ≡ Some value → Cut (Some (record { value = value; next = end + 1 })) text
      cut_at value is = record { within = omega arith; means = λ line. sym (split line ∙ rw is refl) }

      pub cut_no_number : answer ≡ None → Cut None text
      cut_no_number is = record { within = omega arith; means = λ line. sym (split line ∙ rw is refl) }
