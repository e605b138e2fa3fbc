-- The part of a block that is kept: moved to the front, and cut after so many bytes as make a line unreadable.
--
-- In order: a part of a part, by its length; the part moved; a line that was cut is unreadable, as it is
-- whole.
-- Assumes nothing.
use Rattle.basics.proofs.Prelude.{◌≡◌, refl, sym, ap, ◌∙◌, Bool, true, false, ◌&&◌, List, ◌++◌, length}
use Rattle.basics.proofs.Prelude.{take, drop, length-append, length-drop, length-take-le, ℕ, ◌+◌}
use Rattle.basics.proofs.Prelude.{◌-◌, ◌≤◌, ◌<◌, arith, leb, leb-true, leb-false, lt-leb}
use Rattle.std.specs.Prelude.{None}
use Rattle.std.specs.List.{copy_within}
use Prim.Native.Nat.{min}
use native.Mathlib.Nat.{min-eq_left, min-eq_right}
use lib.ListN.{length-take}
use lib.Seq.{take-take, take_all, take-length, paste}
use Rattle.basics.proofs.Cases.{by_test}
use Rattle.script.specs.Grammar.{line_of}
use Rattle.script.specs.Lines.{kept, most}
use Rattle.script.specs.Writing.{Written}

-- ---- parts by their lengths

take_both : (first second : ℕ) (text : List ℕ) → take first (take second text) ≡ take (min first second) text
take_both first second text =
    by_test (leb first second)
    (λ t. let h = leb-true first second t in rw (min-eq_left h) (take-take first second text h))
    (λ t. let h : second ≤ first = omega (arith, leb-false first second t) in
    rw (min-eq_right h) (take_all first (take second text) (rw (length-take second text) (omega arith))))

take_within : (n : ℕ) (text : List ℕ) → take n text ≡ take (min n (length text)) text
take_within n text =
    by_test (leb n (length text)) (λ t. rw (min-eq_left (leb-true n (length text) t)) refl)
    (λ t. let h : length text ≤ n = omega (arith, leb-false n (length text) t) in
    rw (min-eq_right h) (take_all n text h ∙ sym (take-length text)))

sub_least : (a b c : ℕ) → min a b - c ≡ min (a - c) (b - c)
sub_least a b c = omega arith

least_swap : (a b c : ℕ) → min (min a b) c ≡ min (min c a) b
least_swap a b c = omega arith

-- the bytes kept: n of them
kept_take : (text : List ℕ) (at end n : ℕ) → n ≡ min (min end (length text) - at) most
    → take n (drop at text) ≡ kept text at end
kept_take text at end n e =
    let rest : List ℕ = drop at text in
    let wide : length rest ≡ length text - at = length-drop at text in
    let count : n ≡ min (min most (end - at)) (length rest) = cc (
      e,
      sub_least end (length text) at,
      least_swap (end - at) (length text - at) most,
      wide,
    ) in
    cc (count, take_both most (end - at) rest, take_within (min most (end - at)) rest)

-- ---- the part moved

module _ (text : List ℕ) (at end n : ℕ) (is : n ≡ min (min end (length text) - at) most) where
  long : length (kept text at end) ≡ n
  long =
      ap length (sym (kept_take text at end n is))
      ∙ length-take n (drop at text) ∙ rw (length-drop at text) (omega arith)

  pub kept_written : Written (kept text at end) text 0 n (copy_within text at (at + n) 0)
  kept_written =
      let count : at + n - at ≡ n = omega arith in
      record {
        fits = rw long (omega arith);
        ends = rw long (omega arith);
        holds =
            ap (paste text 0 (drop at text)) count
            ∙ ap (λ (l : List ℕ). l ++ drop (0 + n) text) (kept_take text at end n is)
            ∙ ap (λ (k : ℕ). kept text at end ++ drop (0 + k) text) (sym long);
      }

-- ---- a line that was cut

too_long : (text : List ℕ) → 64 < length text → line_of text ≡ None
unfolding line_of
too_long text h = rw (lt-leb (length text) 64 h, and_right (leb 3 (length text))) refl
  where
    and_right : (b : Bool) → b && false ≡ false
    and_right true = refl
    and_right false = refl

-- the start of a line, cut, and what is read behind it
pub cut_line_lem : (start rest : List ℕ) → line_of (take most start ++ rest) ≡ line_of (start ++ rest)
cut_line_lem start rest =
    by_test (leb (length start) most)
    (λ t. rw (take_all most start (leb-true (length start) most t)) refl)
    (λ t. let h = leb-false (length start) most t in
    too_long (take most start ++ rest)
    (rw (length-append (take most start) rest, length-take-le most start (omega arith)) (omega arith))
    ∙ sym (too_long (start ++ rest) (rw (length-append start rest) (omega arith))))
