-- Sorting numbers by a key: what order, single standing and neighbours in the sorted list follow from the
-- keys alone.
--
-- In order: the places of members; lists that rise by the key; sorting by insertion, which keeps the
-- members (`mem_sort`, `sort_mem`) and rises where the keys are different (`sort_rises`). Of a list that
-- rises: the lower key stands earlier (`earlier`), each member stands once (`once`), a member with the next
-- key stands right after (`next_to`), and the one with the lowest key stands first (`first`).
-- Assumes nothing.
use Rattle.basics.proofs.Prelude.{◌≡◌, refl, sym, ap, ◌∙◌, cond, ◌⊎◌, inl, inr, ◌≢◌, List, [], ◌∷◌}
use Rattle.basics.proofs.Prelude.{length, get_or, ℕ, zero, suc, ◌≤◌, ◌<◌, not-suc-le-zero, arith, ltb}
use Rattle.basics.proofs.Prelude.{ltb-true, ltb-false}
use native.Mathlib.Nat.{le_of_suc-le-suc}
use Rattle.basics.specs.Members.{Member, At}
use Rattle.basics.proofs.Cases.{by_test, by_either}
use Rattle.basics.proofs.Ranges.{at_last, neither_below}
use Rattle.basics.proofs.Members.{Every, every_of, every_at}

-- ---- places

pub place : (list : List ℕ) (a : ℕ) → Member a list → (i : ℕ) × At list a i
place [] a x' = elim x' [ ]
place (x ∷ xs) a (inl e) = (0, record { inside = omega arith; is = sym e })
place (x ∷ xs) a (inr m) =
    let r = place xs a m in
    (suc r.0, record { inside = let g = r.1.inside in omega arith; is = r.1.is })

pub place_member : (list : List ℕ) (i : ℕ) → i < length list → Member (get_or list i 0) list
place_member [] i h = absurd (not-suc-le-zero h)
place_member (x ∷ xs) zero h = inl refl
place_member (x ∷ xs) (suc i) h = inr (place_member xs i (le_of_suc-le-suc h))

-- no number stands twice
abbrev pub Distinct : List ℕ → Type 0
Distinct [] = Unit {0}
Distinct (x ∷ xs) = (Member x xs → ⊥) × Distinct xs

module _ (key : ℕ → ℕ) where
  -- each key is lower than those behind it
  abbrev pub Rises : List ℕ → Type 0
  Rises [] = Unit {0}
  Rises (x ∷ xs) = Every (λ y. key x < key y) xs × Rises xs

  -- the keys are pairwise different
  abbrev pub Apart : List ℕ → Type 0
  Apart [] = Unit {0}
  Apart (x ∷ xs) = Every (λ y. key x ≢ key y) xs × Apart xs

  -- keys that tell the members of a list without repetition apart
  pub apart_of : (list : List ℕ) → ((a b : ℕ) → Member a list → Member b list → key a ≡ key b → a ≡ b)
      → Distinct list → Apart list
  apart_of [] tells h = tt
  apart_of (x ∷ xs) tells h = (
    every_of (λ y. key x ≢ key y) xs (λ y m e. h.0 (rw (← (tells x y (inl refl) (inr m) e)) at m)),
    apart_of xs (λ a b ma mb. tells a b (inr ma) (inr mb)) h.1,
  )

  -- ---- sorting by insertion

  insert_by : ℕ → List ℕ → List ℕ
  insert_by a [] = a ∷ []
  insert_by a (x ∷ xs) = cond (ltb (key a) (key x)) (a ∷ x ∷ xs) (x ∷ insert_by a xs)

  pub sort_by : List ℕ → List ℕ
  sort_by [] = []
  sort_by (x ∷ xs) = insert_by x (sort_by xs)

  member_insert : (a b : ℕ) (list : List ℕ) → Member b (insert_by a list) → (b ≡ a) ⊎ Member b list
  unfolding insert_by
  member_insert a b [] m = m
  member_insert a b (x ∷ xs) m =
      by_test (ltb (key a) (key x)) (λ e. rw e at m)
      (λ e. by_either (rw e at m) (λ q. inr (inl q))
      (λ m'. by_either (member_insert a b xs m') (λ q. inl q) (λ q. inr (inr q))))

  insert_member : (a b : ℕ) (list : List ℕ) → (b ≡ a) ⊎ Member b list → Member b (insert_by a list)
  unfolding insert_by
  insert_member a b [] m = m
  insert_member a b (x ∷ xs) m =
      by_test (ltb (key a) (key x)) (λ e. rw e m)
      (λ e. rw e (by_either m (λ q. inr (insert_member a b xs (inl q)))
      (λ q. by_either q (λ r. inl r) (λ r. inr (insert_member a b xs (inr r))))))

  pub mem_sort : (b : ℕ) (list : List ℕ) → Member b (sort_by list) → Member b list
  unfolding sort_by
  mem_sort b [] m = m
  mem_sort b (x ∷ xs) m =
      by_either (member_insert x b (sort_by xs) m) (λ q. inl q) (λ q. inr (mem_sort b xs q))

  pub sort_mem : (b : ℕ) (list : List ℕ) → Member b list → Member b (sort_by list)
  unfolding sort_by
  sort_mem b [] x' = elim x' [ ]
  sort_mem b (x ∷ xs) (inl q) = insert_member x b (sort_by xs) (inl q)
  sort_mem b (x ∷ xs) (inr q) = insert_member x b (sort_by xs) (inr (sort_mem b xs q))

  insert_rises : (a : ℕ) (list : List ℕ) → Rises list → ((y : ℕ) → Member y list → key a ≢ key y)
      → Rises (insert_by a list)
  unfolding insert_by
  insert_rises a [] s h = (tt, tt)
  insert_rises a (x ∷ xs) s h =
      by_test (ltb (key a) (key x)) (λ e. rw e (in_front_lem (ltb-true (key a) (key x) e), s))
      (λ e. rw e (behind (ltb-false (key a) (key x) e), insert_rises a xs s.1 (λ y m. h y (inr m))))
    where
      in_front_lem : key a < key x → Every (λ y. key a < key y) (x ∷ xs)
      in_front_lem lt = (
        lt,
        every_of (λ y. key a < key y) xs
            (λ y m. let hy : key x < key y = every_at (λ z. key x < key z) xs s.0 y m in omega arith),
      )

      less : (y : ℕ) → y ≡ a → key x ≤ key a → key x < key y
      less y q le = let d : key a ≢ key x = h x (inl refl) in rw q (omega arith)

      behind : key x ≤ key a → Every (λ y. key x < key y) (insert_by a xs)
      behind le =
          every_of (λ y. key x < key y) (insert_by a xs)
          (λ y m. by_either (member_insert a y xs m) (λ q. less y q le)
          (λ q. every_at (λ z. key x < key z) xs s.0 y q))

  pub sort_rises : (list : List ℕ) → Apart list → Rises (sort_by list)
  unfolding sort_by
  sort_rises [] h = tt
  sort_rises (x ∷ xs) h =
      insert_rises x (sort_by xs) (sort_rises xs h.1)
      (λ y m. every_at (λ z. key x ≢ key z) xs h.0 y (mem_sort y xs m))

  -- ---- a list that rises

  pub rises_at : (list : List ℕ) → Rises list → (i j : ℕ) → i < j → j < length list
      → key (get_or list i 0) < key (get_or list j 0)
  rises_at [] s i j h g = absurd (not-suc-le-zero g)
  rises_at (x ∷ xs) s zero zero h g = absurd (not-suc-le-zero h)
  rises_at (x ∷ xs) s (suc i) zero h g = absurd (not-suc-le-zero h)
  rises_at (x ∷ xs) s zero (suc j) h g =
      every_at (λ y. key x < key y) xs s.0 (get_or xs j 0) (place_member xs j (le_of_suc-le-suc g))
  rises_at (x ∷ xs) s (suc i) (suc j) h g = rises_at xs s.1 i j (le_of_suc-le-suc h) (le_of_suc-le-suc g)

  -- the lower key stands earlier
  pub earlier : (list : List ℕ) → Rises list → {a b i j : ℕ} → At list a i → At list b j → key a < key b
      → i < j
  earlier list s {a} {b} {i} {j} p q h =
      by_test (ltb i j) (λ e. ltb-true i j e)
      (λ e. at_last j i (let le = ltb-false i j e in omega arith) (λ g. let r = same g in omega arith)
      (λ less. let r = rw (p.is, q.is) at (rises_at list s j i less p.inside) in omega arith))
    where
      same : j ≡ i → key a ≡ key b
      same e = ap key (sym p.is ∙ ap (λ z. get_or list z 0) (sym e) ∙ q.is)

  -- each member stands once
  pub once : (list : List ℕ) → Rises list → {a i j : ℕ} → At list a i → At list a j → i ≡ j
  once list s {a} {i} {j} p q = neither_below i j (apart p q) (apart q p)
    where
      apart : {i' j' : ℕ} → At list a i' → At list a j' → i' < j' → ⊥
      apart {i'} {j'} p q h =
          let r = rw (p.is, q.is) at (rises_at list s i' j' h q.inside) in omega arith

  -- b has a higher key than a and no key lies between: b stands right after a
  pub next_to : (list : List ℕ) → Rises list → {a b i j : ℕ} → At list a i → At list b j → key a < key b
      → ((c : ℕ) → Member c list → key a < key c → key b ≤ key c) → j ≡ suc i
  next_to list s {a} {b} {i} {j} p q h gap =
      by_test (ltb (suc i) j) (λ e. absurd (between (ltb-true (suc i) j e)))
      (λ e. let x = ltb-false (suc i) j e in let y = earlier list s p q h in omega arith)
    where
      between : suc i < j → ⊥
      between lt =
          let g = q.inside in
          let x = rw p.is at (rises_at list s i (suc i) (omega arith) (omega arith)) in
          let y = rw q.is at (rises_at list s (suc i) j lt q.inside) in
          let z = gap (get_or list (suc i) 0) (place_member list (suc i) (omega arith)) x in
          omega arith

  -- a has the lowest key: it stands first
  pub first : (list : List ℕ) → Rises list → {a i : ℕ} → At list a i
      → ((c : ℕ) → Member c list → key a ≤ key c) → i ≡ 0
  first list s {a} {i} p low = neither_below i 0 not-suc-le-zero later
    where
      later : 0 < i → ⊥
      later lt =
          let g = p.inside in
          let x = rw p.is at (rises_at list s 0 i lt p.inside) in
          let y = low (get_or list 0 0) (place_member list 0 (omega arith)) in
          omega arith
