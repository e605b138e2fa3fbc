-- A text written into a buffer.
-- Assumes nothing.
use Rattle.std.specs.Prelude.{ℕ, ◌+◌, ◌≤◌, ◌≡◌, List, ◌++◌, length, take, drop}

-- a buffer with a text written from a place on
abbrev pub written : List ℕ → ℕ → List ℕ → List ℕ
written out at text = take at out ++ text ++ drop (at + length text) out

-- a text that fits was written from `at` on up to `end`, and the rest of the buffer is as it was
pub record Written (text before : List ℕ) (at end : ℕ) (after : List ℕ) : Type 0 where
  pub fits : at + length text ≤ length before
  pub ends : end ≡ at + length text
  pub holds : after ≡ written before at text

-- a text was written from `at` on up to `end`, and up to five bytes behind it have changed
pub record Begun (text before : List ℕ) (at end : ℕ) (after : List ℕ) : Type 0 where
  pub more : List ℕ
  pub few : length more ≤ 5
  pub ends : end ≡ at + length text
  pub wrote : Written (text ++ more) before at (end + length more) after
