-- A function on numbers, changed at one number.
-- Assumes nothing.
use Rattle.std.specs.Prelude.{ℕ, cond, eqb}

module _ {A : Type 0} where
  -- the old function, but another value at i
  unfoldable pub update : (ℕ → A) → ℕ → A → ℕ → A
  update old i new j = cond (eqb i j) new (old j)
