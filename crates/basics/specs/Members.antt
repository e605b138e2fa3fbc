-- Members of a list and their places.
-- Assumes nothing.
use Rattle.std.specs.Prelude.{ℕ, ◌<◌, ◌≡◌, ◌⊎◌, List, [], ◌∷◌, length, get_or}

module _ {A : Type 0} where
  -- a is one of the list
  abbrev pub Member : A → List A → Type 0
  Member a [] = ⊥
  Member a (x ∷ xs) = (a ≡ x) ⊎ Member a xs

-- a stands at place i of the list, counted from 0
pub record At (list : List ℕ) (a i : ℕ) : Type 0 where
  pub inside : i < length list
  pub is : get_or list i 0 ≡ a
