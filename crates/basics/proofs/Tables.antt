-- Tables of rows of one width: what is read from a row or put in its place, seen in the table.
--
-- A part that stands between a front and a back is read, or another put in its place, whatever they are
-- (`part_between`, `put_between`). What reads or changes row i wherever it stands reads or changes the
-- table at i (`reads_row`, `acts_row`): by induction over the rows, with what follows them kept open. So
-- the part at row i is the row (`tabled_part`), to put another there is to change the row (`tabled_put`),
-- and a list is the table of its parts (`tabled_back`). The table stands behind a list `lead`; the names with
-- -alone say the same where nothing stands before it.
-- Assumes nothing.
use Rattle.basics.proofs.Prelude.{◌≡◌, refl, sym, ap, ◌∙◌, List, [], ◌++◌, append_assoc, append-nil}
use Rattle.basics.proofs.Prelude.{length, take, drop, length-append, length-drop, ℕ, zero, suc, ◌+◌}
use Rattle.basics.proofs.Prelude.{◌*◌, ◌<◌, not-suc-le-zero, zero-add, arith, eqb}
use native.Mathlib.Nat.{zero-mul, suc-mul}
use lib.ListN.{take-append-drop}
use lib.Seq.{take_at, drop_at, take-add, take_all, drop-drop}
use Rattle.basics.specs.Tables.{tabled, part_at, put_part}
use Rattle.basics.specs.Update.{update}
use Rattle.basics.proofs.Cases.{by_test}
use Rattle.basics.proofs.Ranges.{at_last}
use Rattle.basics.proofs.Update.{update_same, update_other}

-- a function on the values of a changed function
pub update_map : {A B : Type 0} (f : A → B) (g : ℕ → A) (i j : ℕ) (a : A)
    → update (λ k. f (g k)) i (f a) j ≡ f (update g i a j)
unfolding update
update_map f g i j a = by_test (eqb i j) (λ e. rw e) (λ e. rw e)

module _ {A : Type 0} where
  -- ---- a part between a front and a back

  module _ (front part back : List A) (at width : ℕ) (e : length front ≡ at)
      (wide : length part ≡ width) where
    pub part_between : part_at at width (front ++ part ++ back) ≡ part
    part_between =
        rw (append_assoc front part back, drop_at front (part ++ back) at e) (take_at part back width wide)

    pub put_between : (new : List A) → put_part at width (front ++ part ++ back) new ≡ front ++ new ++ back
    put_between new =
        let first : take at (front ++ part ++ back) ≡ front =
        rw (append_assoc front part back) (take_at front (part ++ back) at e) in
        let rest : drop (at + width) (front ++ part ++ back) ≡ back =
        drop_at (front ++ part) back (at + width) (length-append front part ∙ rw (e, wide)) in
        rw (first, rest)

  -- ---- tables

  pub tabled_same : (row other : ℕ → List A) (n : ℕ) → ((i : ℕ) → i < n → row i ≡ other i)
      → tabled row n ≡ tabled other n
  unfolding tabled
  tabled_same row other zero h = refl
  tabled_same row other (suc n) h =
      rw (tabled_same row other n (λ i less. h i (omega arith)), h n (omega arith))

  -- rows made of the values of a changed function
  pub tabled_update : {B : Type 0} (f : B → List A) (g : ℕ → B) (i : ℕ) (a : B) (n : ℕ)
      → tabled (update (λ j. f (g j)) i (f a)) n ≡ tabled (λ j. f (update g i a j)) n
  tabled_update f g i a n =
      tabled_same (update (λ j. f (g j)) i (f a)) (λ j. f (update g i a j)) n (λ j less. update_map f g i j a)

  module _ (width : ℕ) (row : ℕ → List A) where
    pub tabled_length : (n : ℕ) → ((j : ℕ) → j < n → length (row j) ≡ width)
        → length (tabled row n) ≡ n * width
    unfolding tabled
    tabled_length zero wide = rw (zero-mul width)
    tabled_length (suc n) wide =
        length-append (tabled row n) (row n)
        ∙ rw (tabled_length n (λ i less. wide i (omega arith)), wide n (omega arith), suc-mul n width)

    pub tabled_length_behind : (lead : List A) (n : ℕ) → ((j : ℕ) → j < n → length (row j) ≡ width)
        → length (lead ++ tabled row n) ≡ length lead + n * width
    tabled_length_behind lead n wide = length-append lead (tabled row n) ∙ rw (tabled_length n wide)

    module _ (lead : List A) (i : ℕ) where
      before : (n : ℕ) → ((j : ℕ) → j < n → length (row j) ≡ width) → i < n
          → length (lead ++ tabled row i) ≡ length lead + i * width
      before n wide h = tabled_length_behind lead i (λ j less. wide j (omega arith))

      reads_open : {X : Type 0} (f : List A → X) (x : X) (n : ℕ) → ((j : ℕ) → j < n → length (row j) ≡ width)
          → i < n
          → ((front back : List A) → length front ≡ length lead + i * width → f (front ++ row i ++ back) ≡ x)
          → (back : List A) → f (lead ++ tabled row n ++ back) ≡ x
      unfolding tabled
      reads_open f x zero wide h reads back = absurd (not-suc-le-zero h)
      reads_open f x (suc n) wide h reads back =
          at_last i n h
          (λ same. rw (← same, ← append_assoc lead (tabled row i) (row i))
          (reads (lead ++ tabled row i) back (before (suc n) wide h))) (λ less.
          rw (← append_assoc lead (tabled row n) (row n), append_assoc (lead ++ tabled row n) (row n) back)
          (reads_open f x n (λ j lower. wide j (omega arith)) less reads (row n ++ back)))

      acts_open : (f : List A → List A) (new : List A) (n : ℕ) → ((j : ℕ) → j < n → length (row j) ≡ width)
          → i < n → ((front back : List A) → length front ≡ length lead + i * width
          → f (front ++ row i ++ back) ≡ front ++ new ++ back)
          → (back : List A) → f (lead ++ tabled row n ++ back) ≡ lead ++ tabled (update row i new) n ++ back
      unfolding tabled
      acts_open f new zero wide h acts back = absurd (not-suc-le-zero h)
      acts_open f new (suc n) wide h acts back =
          at_last i n h
          (λ same. rw (
            ← same,
            update_same row i new,
            tabled_same (update row i new) row i (λ j less. update_other row i j new (λ z. omega arith)),
            ← append_assoc lead (tabled row i) (row i),
            ← append_assoc lead (tabled row i) new,
          ) (acts (lead ++ tabled row i) back (before (suc n) wide h)))
          (λ less. rw (
            update_other row i n new (λ z. omega arith),
            ← append_assoc lead (tabled row n) (row n),
            ← append_assoc lead (tabled (update row i new) n) (row n),
            append_assoc (lead ++ tabled row n) (row n) back,
            append_assoc (lead ++ tabled (update row i new) n) (row n) back,
          ) (acts_open f new n (λ j lower. wide j (omega arith)) less acts (row n ++ back)))

  -- ---- one row of a table of n rows

  module _ (width : ℕ) (row : ℕ → List A) (n : ℕ) (wide : (j : ℕ) → j < n → length (row j) ≡ width) where
    module _ (lead : List A) (i : ℕ) (inside : i < n) where
      -- what reads row i wherever it stands
      pub reads_row : {X : Type 0} (f : List A → X) (x : X)
          → ((front back : List A) → length front ≡ length lead + i * width → f (front ++ row i ++ back) ≡ x)
          → f (lead ++ tabled row n) ≡ x
      reads_row f x reads =
          ap f (sym (append-nil (lead ++ tabled row n)))
          ∙ reads_open width row lead i f x n wide inside reads []

      -- what changes row i wherever it stands
      pub acts_row : (f : List A → List A) (new : List A)
          → ((front back : List A) → length front ≡ length lead + i * width
          → f (front ++ row i ++ back) ≡ front ++ new ++ back)
          → f (lead ++ tabled row n) ≡ lead ++ tabled (update row i new) n
      acts_row f new acts =
          ap f (sym (append-nil (lead ++ tabled row n)))
          ∙ acts_open width row lead i f new n wide inside acts []
          ∙ append-nil (lead ++ tabled (update row i new) n)

      pub tabled_part : part_at (length lead + i * width) width (lead ++ tabled row n) ≡ row i
      tabled_part =
          reads_row (part_at (length lead + i * width) width) (row i)
          (λ front back e. part_between front (row i) back (length lead + i * width) width e (wide i inside))

      pub tabled_put : (part : List A)
          → put_part (length lead + i * width) width (lead ++ tabled row n) part
          ≡ lead ++ tabled (update row i part) n
      tabled_put part =
          acts_row (λ l. put_part (length lead + i * width) width l part) part
          (λ front back e. put_between front (row i) back (length lead + i * width) width e
          (wide i inside) part)

    module _ (i : ℕ) (inside : i < n) where
      pub tabled_part_alone : part_at (i * width) width (tabled row n) ≡ row i
      tabled_part_alone = rw (← zero-add (i * width)) (tabled_part [] i inside)

      pub tabled_put_alone : (part : List A)
          → put_part (i * width) width (tabled row n) part ≡ tabled (update row i part) n
      tabled_put_alone part = rw (← zero-add (i * width)) (tabled_put [] i inside part)

  -- ---- a list is the table of its parts

  module _ (width : ℕ) (list : List A) where
    parts : (n : ℕ) → tabled (λ i. part_at (i * width) width list) n ≡ take (n * width) list
    unfolding tabled
    parts zero = rw (zero-mul width)
    parts (suc n) = rw (parts n, suc-mul n width) (sym (take-add (n * width) width list))

    pub tabled_back_alone : (n : ℕ) → length list ≡ n * width
        → tabled (λ i. part_at (i * width) width list) n ≡ list
    tabled_back_alone n e = parts n ∙ take_all (n * width) list (omega arith)

  -- .. behind its first values
  pub tabled_back : (width : ℕ) (list : List A) (first n : ℕ) → length list ≡ first + n * width
      → take first list ++ tabled (λ i. part_at (first + i * width) width list) n ≡ list
  tabled_back width list first n e =
      let rest : tabled (λ i. part_at (first + i * width) width list) n ≡ drop first list =
      tabled_same (λ i. part_at (first + i * width) width list)
      (λ i. part_at (i * width) width (drop first list)) n
      (λ i less. ap (take width) (sym (drop-drop (i * width) first list)))
      ∙ tabled_back_alone width (drop first list) n (length-drop first list ∙ omega arith) in
      rw rest (take-append-drop first list)
