-- A ladder of refusals: which one is given (01: 'The lowest number that applies is returned').
--
-- In order: a rung, the answer of a ladder, what a function that may refuse answers, and what it is for a ladder
-- to stand in the table's order.
-- Assumes nothing.
use Rattle.std.specs.Prelude.{ℕ, Bool, true, cond, ◌&&◌, List, [], ◌∷◌, ltb, Result, Ok, Err}
use Rattle.std.specs.Prelude.{Option, None, Some}
use Rattle.refusal.specs.declared.Refusal.{Refusal}
use Rattle.refusal.specs.Numbers.{numbered}

-- the number of a refusal, and whether it applies
pub record Rung : Type 0 where
  pub number : ℕ
  pub applies : Bool

infix 70 ◌whenever◌
abbrev pub ◌whenever◌ : ℕ → Bool → Rung
number whenever test = record { number = number; applies = test }

-- the first refusal of the ladder that applies
abbrev pub lowest : List Rung → Option Refusal
lowest [] = None
lowest (rung ∷ rungs) = cond rung.applies (Some (numbered rung.number)) (lowest rungs)

-- 01's answer: what was asked for, or the refusal
abbrev pub or_refused : {A : Type 0} → Option Refusal → A → Result A Refusal
or_refused None asked = Ok asked
or_refused (Some why) asked = Err why

-- every rung has a higher number than n and than those before it
abbrev pub rising : ℕ → List Rung → Bool
rising n [] = true
rising n (rung ∷ rungs) = ltb n rung.number && rising rung.number rungs
