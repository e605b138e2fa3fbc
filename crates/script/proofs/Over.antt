-- A text written over the end of another.
--
-- Why: of the text before, what is longer than the new one is left behind it (`written_over`). If few bytes
-- stand behind a text, and what is written over them is as long, nothing is left, as if they had never been
-- written (`then_over`).
-- Assumes nothing.
use Rattle.basics.proofs.Prelude.{◌≡◌, sym, ap, ◌∙◌, List, [], ◌∷◌, ◌++◌, append_assoc, append-nil, length}
use Rattle.basics.proofs.Prelude.{set, take, drop, length-append, length-drop, length-take-le, ℕ, zero, suc}
use Rattle.basics.proofs.Prelude.{◌+◌, ◌-◌, ◌≤◌, arith}
use lib.ListN.{drop_of_length-le}
use lib.Seq.{take_at, drop-append-add, drop-drop}
use Rattle.script.specs.Writing.{written, Written, Begun}
use Rattle.script.proofs.Writing.{written_none, written_then, written_front, length_written, keeps}

drop_append : (n : ℕ) (xs ys : List ℕ) → drop n (xs ++ ys) ≡ drop n xs ++ drop (n - length xs) ys
drop_append zero xs ys = let none : 0 - length xs ≡ 0 = omega arith in rw none
drop_append (suc n) [] ys = let all : suc n - 0 ≡ suc n = omega arith in rw all
drop_append (suc n) (x ∷ xs) ys =
    let less : suc n - suc (length xs) ≡ n - length xs = omega arith in rw less (drop_append n xs ys)

-- two bytes stored
pub two_written : (out : List ℕ) (at first second : ℕ) → at + 2 ≤ length out
    → set (set out (at + 1) second) at first ≡ written out at (first ∷ second ∷ [])
two_written out at first second h =
    let next : at + 1 ≡ suc at = omega arith in
    let one : set out (suc at) second ≡ written out (suc at) (second ∷ []) = cc (
      written_none out (suc (suc at)),
      written_front out (suc at) [] second (omega arith),
    ) in
    rw (next, one) (written_front out at (second ∷ []) first (omega arith))

module _ (out : List ℕ) (at : ℕ) (old new : List ℕ) (room : at + length old ≤ length out) where
  -- what is left of the first text
  abbrev rest : List ℕ
  rest = drop (length new) old

  -- what stands before both
  abbrev head : List ℕ
  head = take at out

  head_length : length head ≡ at
  head_length = length-take-le at out (omega arith)

  behind : drop (at + length new) (written out at old) ≡ rest ++ drop (at + length (new ++ rest)) out
  behind =
      let end : List ℕ = drop (at + length old) out in
      let more : at + length old + (length new - length old) ≡ at + length (new ++ rest) =
      rw (length-append new rest, length-drop (length new) old) (omega arith) in
      ap (λ (l : List ℕ). drop (at + length new) l) (append_assoc head old end)
      ∙ ap (λ (n : ℕ). drop (n + length new) (head ++ (old ++ end))) (sym head_length)
      ∙ drop-append-add head (old ++ end) (length new) ∙ drop_append (length new) old end
      ∙ ap (λ (l : List ℕ). rest ++ l)
      (drop-drop (length new - length old) (at + length old) out ∙ ap (λ (n : ℕ). drop n out) more)

  pub written_over : written (written out at old) at new ≡ written out at (new ++ rest)
  written_over =
      let end : List ℕ = drop (at + length old) out in
      let end' : List ℕ = drop (at + length (new ++ rest)) out in
      cc (
        append_assoc head old end,
        take_at head (old ++ end) at head_length,
        behind,
        append_assoc (head ++ new) rest end',
        append_assoc head new rest,
      )

-- a text written from the end of `front` on, over `old`
pub over : (front old : List ℕ) {new before : List ℕ} {at end here last : ℕ} {mid after : List ℕ}
    → Written (front ++ old) before at end mid → here ≡ at + length front
    → Written new mid here last after → after ≡ written before at (front ++ (new ++ drop (length new) old))
over front old {new} {before} {at} {end} {here} first ends second =
    let one : length (front ++ old) ≡ length front + length old = length-append front old in
    let free : at + length front + length old ≤ length before = omega (arith, first.fits) in
    let base : List ℕ = written before at front in
    let wide : length base ≡ length before = length_written before at front (omega arith) in
    cc (
      second.holds,
      first.holds,
      written_then before at front (omega arith) old,
      ends,
      written_over base (at + length front) old new (omega arith),
      written_then before at front (omega arith) (new ++ drop (length new) old),
    )

-- five bytes or more behind a text that was begun: nothing else has changed
module _ {text before : List ℕ} {at end : ℕ} {mid : List ℕ} (begun : Begun text before at end mid) where
  pub begun_keeps : length mid ≡ length before
  begun_keeps = keeps begun.wrote

  pub then_over : {more : List ℕ} {last : ℕ} {after : List ℕ} → 5 ≤ length more
      → Written more mid end last after → Written (text ++ more) before at last after
  then_over {more} {last} {after} long rest =
      let sum : length (text ++ more) ≡ length text + length more = length-append text more in
      let wide : length mid ≡ length before = begun_keeps in
      let none : drop (length more) begun.more ≡ [] =
      drop_of_length-le begun.more {i = length more} (omega (arith, begun.few)) in
      let all : more ++ drop (length more) begun.more ≡ more = rw none (append-nil more) in
      record {
        fits = rw sum (omega (arith, rest.fits, begun.ends));
        ends = rest.ends ∙ rw sum (omega (arith, begun.ends));
        holds =
            over text begun.more begun.wrote begun.ends rest
            ∙ ap (λ (l : List ℕ). written before at (text ++ l)) all;
      }
