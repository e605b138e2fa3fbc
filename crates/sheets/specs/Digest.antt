-- Digests: many answers as one number, so that the program's output is short.
--
-- In order: one number more; what stands for an answer; many steps.
-- A reader of the public contracts needs none of it.
-- Assumes nothing.
use Rattle.std.specs.Prelude.{ℕ, ◌+◌, ◌-◌, ◌*◌, ◌%◌, ℤ, pos, negsuc, Result, Ok, Err}
use Rattle.std.specs.List.{fold, range_with_len}
use Rattle.refusal.specs.declared.Refusal.{Refusal}
use Rattle.refusal.specs.Numbers.{number_of}

-- a digest with a number behind it
unfoldable pub mixed : ℕ → ℕ → ℕ
mixed number digest = (digest % 4294967291 * 1000003 + number % 4294967291) % 4294967291

-- a signed number of 32 bits moved up, so that none is below 0
abbrev pub raised : ℤ → ℕ
raised (pos n) = n + 2147483648
raised (negsuc n) = 2147483647 - n

-- 0 and then what was asked for, as a digest has it, or else the refusal's number
module _ {A : Type 0} where
  abbrev pub answer_in : (A → ℕ → ℕ) → Result A Refusal → ℕ → ℕ
  answer_in asked (Ok value) digest = asked value (mixed 0 digest)
  answer_in asked (Err why) digest = mixed (number_of why) digest

-- a step taken with 0, 1, .. up to n - 1, one after the other
module _ {A : Type 0} where
  unfoldable pub in_turn : (ℕ → A → A) → ℕ → A → A
  in_turn step n start = fold (λ a i. step i a) start (range_with_len 0 n)
