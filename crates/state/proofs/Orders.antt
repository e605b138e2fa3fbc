-- Sets of pairs in strict order: the test of neighbours says the same as the order of all, since the order is
-- transitive. And a fact of every element of a list, by its place.
-- Assumes nothing.
use Rattle.basics.proofs.Prelude.{◌≡◌, refl, true, inl, inr, List, [], ◌∷◌, ◌++◌, length, get_or, ℕ, zero, suc}
use Rattle.basics.proofs.Prelude.{◌<◌, not-suc-le-zero, arith, ltb-true, lt-ltb}
use native.Mathlib.Nat.{lt_trans}
use Rattle.basics.proofs.Cases.{both, both_of}
use Rattle.register.proofs.Vocabulary.{Member, Pair}
use Rattle.basics.proofs.Members.{Every}
use Rattle.register.specs.PairSet.{Ordered}
use Rattle.replies.specs.Sound.{is_first, is_rising}

above_all : (p : Pair) (l : List Pair) → is_first p l ≡ true → Ordered l
    → (y : Pair) → Member y l → p.0 < y.0
above_all p [] h o y x3 = elim x3 [ ]
above_all p (q ∷ qs) h o y (inl e) = rw e (ltb-true p.0 q.0 h)
above_all p (q ∷ qs) h o y (inr m) = lt_trans (ltb-true p.0 q.0 h) (o.0 y m)

pub rising_ordered : (l : List Pair) → is_rising l ≡ true → Ordered l
unfolding is_rising
rising_ordered [] h = tt
rising_ordered (p ∷ ps) h =
    let b = both (is_first p ps) (is_rising ps) h in
    let o = rising_ordered ps b.1 in
    (above_all p ps b.0 o, o)

first_of : (p : Pair) (l : List Pair) → ((y : Pair) → Member y l → p.0 < y.0) → is_first p l ≡ true
first_of p [] h = refl
first_of p (q ∷ qs) h = lt-ltb p.0 q.0 (h q (inl refl))

pub ordered_rising : (l : List Pair) → Ordered l → is_rising l ≡ true
unfolding is_rising
ordered_rising [] o = refl
ordered_rising (p ∷ ps) o =
    both_of (is_first p ps) (is_rising ps) (first_of p ps o.0) (ordered_rising ps o.1)

-- every element by its place
module _ {A : Type 0} (P : A → Type 0) (d : A) where
  pub every_place : (l : List A) → ((x : ℕ) → x < length l → P (get_or l x d)) → Every P l
  every_place [] h = tt
  every_place (y ∷ ys) h = (h 0 (omega arith), every_place ys (λ x less. h (suc x) (omega arith)))

  pub place_every : (l : List A) (x : ℕ) → Every P l → x < length l → P (get_or l x d)
  place_every [] x e less = absurd (not-suc-le-zero less)
  place_every (y ∷ ys) zero e less = e.0
  place_every (y ∷ ys) (suc x) e less = place_every ys x e.1 (omega arith)

  pub every_join : (a b : List A) → Every P a → Every P b → Every P (a ++ b)
  every_join [] b p q = q
  every_join (y ∷ a) b p q = (p.0, every_join a b p.1 q)
