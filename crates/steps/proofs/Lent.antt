-- A part of an array that a step lends, and what is left when another stands in its place.
--
-- A step lends `&numbers[at..end]` with `end = at + width`: that is the part of `width` numbers from `at` on
-- (`lent`). What it leaves there is put back between what stands before and behind (`put_back`). A part that
-- is put back as it was changes nothing (`same_back`).
-- Assumes nothing.
use Rattle.basics.proofs.Prelude.{◌≡◌, sym, ap, ◌∙◌, List, ◌++◌, append_assoc, take, drop, ℕ, ◌+◌, ◌-◌, arith}
use lib.ListN.{take-append-drop}
use lib.Seq.{drop-drop, take-add}
use borrow.Rule.Slice.PartMut.{put_mid}
use Rattle.basics.specs.Tables.{part_at, put_part}

module _ (at width : ℕ) (numbers : List ℕ) where
  -- the code's `at` is where the part begins
  module _ (here : ℕ) (place : here ≡ at) where
    wide : here + width - here ≡ width
    wide = omega arith

    pub lent : take (here + width - here) (drop here numbers) ≡ part_at at width numbers
    lent = ap (λ (n : ℕ). take n (drop here numbers)) wide ∙ ap (λ (n : ℕ). take width (drop n numbers)) place

    pub put_back : (x y : List ℕ) → x ≡ y → put_mid here (here + width - here) numbers x
        ≡ put_part at width numbers y
    put_back x y e =
        ap (λ (n : ℕ). put_mid here n numbers x) wide ∙ ap (λ (n : ℕ). put_mid n width numbers x) place
        ∙ ap (put_mid at width numbers) e
        ∙ ap (λ (r : List ℕ). take at numbers ++ (y ++ r)) (drop-drop width at numbers)
        ∙ sym (append_assoc (take at numbers) y (drop (at + width) numbers))

  pub same_back : put_part at width numbers (part_at at width numbers) ≡ numbers
  same_back = ap (λ (r : List ℕ). r ++ drop (at + width) numbers) (sym (take-add at width numbers))
      ∙ take-append-drop (at + width) numbers
