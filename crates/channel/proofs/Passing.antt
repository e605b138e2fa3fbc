-- Zeros joined by OR; and what a test's result says, for the crates above.
--
-- Numbers joined by OR are zero where each is (`or_zero`), so a part that is joined is zero where the one
-- behind it is and all before (`joined_zero`); a channel without messages is sound where its slots are zero
-- (`empty_sound`).
-- Assumes nothing.
use Rattle.basics.proofs.Prelude.{◌≡◌, refl, ap, Bool, ◌&&◌, List, [], ◌∷◌, length, get_or, take, drop}
use Rattle.basics.proofs.Prelude.{length-drop, ℕ, zero, suc, ◌+◌, ◌≤◌}
use Rattle.basics.proofs.Prelude.{add-zero, arith, eqb, eqb-true, eqb-false, eq-eqb, ne_eqb}
use mathlib.Core.Bool.{and-true}
use lib.Seq.{take-suc, get_or-drop}
use Rattle.std.specs.List.{fold}
use Rattle.std.proofs.lemmas.List.Sums.{fold-append}
use lib.Bits.{bit_and, bit_or, or_add_and, and_le_l, and_le_r}
use Rattle.basics.specs.Tests.{all_pass, all_below}
use Rattle.basics.proofs.Cases.{by_test}
use Rattle.channel.specs.Memory.{per_channel, slots_start, slot, count_at}
use Rattle.channel.specs.Sound.{zero_from, is_down, slot_goes, channel_tests}
pub use Rattle.basics.proofs.Tests.{passed, failed, none_passed, one_more, fails_here, all_passed}

-- ---- zeros

pub or_zero : (x y : ℕ) → eqb (bit_or x y) 0 ≡ eqb x 0 && eqb y 0
or_zero x y =
    let s : bit_or x y + bit_and x y ≡ x + y = or_add_and x y in
    let l : bit_and x y ≤ x = and_le_l x y in
    let r : bit_and x y ≤ y = and_le_r x y in
    by_test (eqb x 0)
    (λ e. let p : x ≡ 0 = eqb-true x 0 e in
    by_test (eqb y 0)
    (λ f. let q : y ≡ 0 = eqb-true y 0 f in rw (e, f) (eq-eqb (bit_or x y) 0 (omega arith)))
    (λ f. let q = eqb-false y 0 f in rw (e, f) (ne_eqb (bit_or x y) 0 (λ z. q (omega arith)))))
    (λ e. let p = eqb-false x 0 e in rw e (ne_eqb (bit_or x y) 0 (λ z. p (omega arith))))

-- n numbers from `at` on, joined
pub joined_zero : (list : List ℕ) (at n width : ℕ) → at + n ≤ length list → width ≡ n
    → eqb (fold bit_or 0 (take width (drop at list))) 0 ≡ zero_from list at n
unfolding all_below
joined_zero list at n width inside e =
    rw (e, first n (omega (arith, length-drop at list)))
    (ap (λ (test : ℕ → Bool). all_below test n) (λ q j. eqb (get_or-drop at list j 0 q) 0))
  where
    part : List ℕ
    part = drop at list

    first : (n : ℕ) → n ≤ length part
        → eqb (fold bit_or 0 (take n part)) 0 ≡ all_below (λ j. eqb (get_or part j 0) 0) n
    first zero h = refl
    first (suc n) h =
        rw (
          take-suc part n 0 (omega arith),
          fold-append bit_or 0 (take n part) (get_or part n 0 ∷ []),
          or_zero (fold bit_or 0 (take n part)) (get_or part n 0),
          first n (omega arith),
        )

pub empty_sound : (slots : List ℕ) (i : ℕ) → count_at slots i ≡ 0
    → all_pass (channel_tests slots i) ≡ zero_from slots (slots_start i) per_channel
unfolding channel_tests
empty_sound slots i none =
    rw (none, none_passed (λ j. slot_goes (is_down i) slots (slot i j)), add-zero (slots_start i))
    (and-true (zero_from slots (slots_start i) per_channel))
