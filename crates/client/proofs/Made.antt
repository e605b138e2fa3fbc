-- What `from_fn` gives: where each call gives the number that a list has at its place, and leaves the closure as
-- it was (`gives`), it is that list, if there are as many calls as numbers. The calls go from place to place
-- (`made_from`), and two lists of one length with the same numbers are one.
-- Assumes nothing.
use Rattle.basics.proofs.Prelude.{◌≡◌, sym, ◌∙◌, subst, List, length, get_or, ℕ, zero, suc, ◌+◌, ◌<◌, zero-add, arith}
use Rattle.std.proofs.lemmas.List.{ext_get_or}
use Rattle.std.specs.Array.{IsFromFnResult, IsFromFnResultFrom}
use Rattle.std.specs.Fn.{Called}
use denote.Param.Members.{Mut}

module _ {F : Type 0} (g : Mut F (ℕ × Unit {0}) ℕ) (f : F) (xs ys : List ℕ)
    (gives : (i y : ℕ) (q : F) → Called g f (i, tt) y q → (q ≡ f) × (y ≡ get_or xs i 0)) where
  made_from : (i n : ℕ) → IsFromFnResultFrom g f ys i n → (k : ℕ) → k < n
      → get_or ys (i + k) 0 ≡ get_or xs (i + k) 0
  made_from i zero made k less = absurd (omega arith)
  made_from i (suc n) made zero less =
      let here : i + 0 ≡ i = omega arith in
      let told = gives i made.1 made.0 made.3 in
      rw here (made.2.1 0 ∙ told.1)
  made_from i (suc n) made (suc k) less =
      let next : i + suc k ≡ i + 1 + k = omega arith in
      let told = gives i made.1 made.0 made.3 in
      let rest = subst (λ (q : F). IsFromFnResultFrom g q ys (i + 1) n) told.0 made.4 in
      rw next (made_from (i + 1) n rest k (omega arith))

  pub made_is : (n : ℕ) → IsFromFnResult g f ys n → length xs ≡ n → ys ≡ xs
  made_is n made long =
      ext_get_or 0 ys xs (made.long ∙ sym long)
      (λ i less. simp zero-add at (made_from 0 n made.each i (omega (arith, made.long))))
