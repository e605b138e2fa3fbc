-- The difference of two natural numbers as a signed number.
--
-- Its sign is their order (`diff_negative`, `diff_positive`, `diff_same`, `diff_zero`). Where both are below
-- 2 ^ 31 it lies between −2 ^ 31 and 2 ^ 31, so it fits 32 bits (`diff_fits`) and is kept whole (`diff_is`).
-- Assumes nothing.
use Rattle.basics.proofs.Prelude.{◌≡◌, ap, ◌∙◌, Bool, true, false, cond, ℕ, zero, suc, ◌-◌, ◌^◌, ◌≤◌, ◌<◌}
use Rattle.basics.proofs.Prelude.{not-suc-le-zero, arith, ltb, ltb-true, ltb-false, lt-ltb, le-ltb}
use lib.IntN.{pos, negsuc, ◌-ℤ◌}
use lib.Signed.{mag, lt_z}
use mir.Syntax.{w32}
use mir.Val.{to_z, of_z, SFits}
use mir.ValLaws.{to_z_pos, to_z-of_z}
use Rattle.basics.proofs.Cases.{by_test}

diff_less : (a b : ℕ) → a < b → pos a -ℤ pos b ≡ negsuc (b - suc a)
diff_less a zero h = absurd (not-suc-le-zero h)
diff_less a (suc b) h = rw (lt-ltb a (suc b) h)

diff_more : (a b : ℕ) → b ≤ a → pos a -ℤ pos b ≡ pos (a - b)
diff_more a zero h = ap pos (omega arith)
diff_more a (suc b) h = rw (le-ltb a (suc b) h)

module _ (a b : ℕ) where
  pub diff_negative : lt_z (pos a -ℤ pos b) (pos 0) ≡ ltb a b
  diff_negative =
      by_test (ltb a b) (λ e. rw (diff_less a b (ltb-true a b e), e))
      (λ e. rw (diff_more a b (ltb-false a b e), e) (le-ltb (a - b) 0 (omega arith)))

  pub diff_positive : lt_z (pos 0) (pos a -ℤ pos b) ≡ ltb b a
  diff_positive =
      by_test (ltb b a)
      (λ e. let h = ltb-true b a e in rw (diff_more a b (omega arith), e) (lt-ltb 0 (a - b) (omega arith)))
      (λ e. by_test (ltb a b) (λ less. rw (diff_less a b (ltb-true a b less), e))
      (λ less. rw (diff_more a b (ltb-false a b less), e)
      (le-ltb 0 (a - b) (let h = ltb-false b a e in omega arith))))

  pub diff_same : a ≡ b → pos a -ℤ pos b ≡ pos 0
  diff_same h = diff_more a b (omega arith) ∙ ap pos (omega arith)

  pub diff_zero : pos a -ℤ pos b ≡ pos 0 → a ≡ b
  diff_zero z =
      by_test (ltb a b)
      (λ e. absurd (let d = diff_less a b (ltb-true a b e) in let z' : ◌≡◌ {A = ℕ} 0 1 = cc in omega arith))
      (λ e. let h = ltb-false a b e in
      let d = diff_more a b h in
      let none : a - b ≡ 0 = cc in
      omega arith)

-- within 32 bits
cond_mag : (t : Bool) (x y n : ℕ) → x < n → y < n → mag (cond t (negsuc x) (pos y)) < n
cond_mag true x y n p q = p
cond_mag false x y n p q = q

diff_mag : (a b n : ℕ) → a < n → b < n → mag (pos a -ℤ pos b) < n
diff_mag a zero n p q = omega arith
diff_mag a (suc b) n p q = cond_mag (ltb a (suc b)) (suc b - suc a) (a - suc b) n (omega arith) (omega arith)

module _ (a b : ℕ) (p : a < 2 ^ 31) (q : b < 2 ^ 31) where
  pub diff_fits : SFits w32 (to_z w32 a -ℤ to_z w32 b)
  diff_fits = rw (to_z_pos w32 a p, to_z_pos w32 b q) (record { sfits = diff_mag a b (2 ^ 31) p q })

  pub diff_is : to_z w32 (of_z w32 (to_z w32 a -ℤ to_z w32 b)) ≡ pos a -ℤ pos b
  diff_is = to_z-of_z w32 (to_z w32 a -ℤ to_z w32 b) diff_fits ∙ rw (to_z_pos w32 a p, to_z_pos w32 b q)
