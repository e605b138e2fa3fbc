-- Laws of ladders, for every crate that refuses.
--
-- A ladder gives the refusal of the first rung that applies. So one that refuses nothing has no rung that
-- applies (`none_applies`: each that did would have been given). Code that tests rung by rung and returns
-- at the first that applies gives what the ladder gives (`climbs`: the rungs before it give way). Two
-- ladders of the same refusals give the same one if each test agrees where no rung before it applies
-- (`lowest_same`: what stands behind a rung that applies is not looked at).
--
-- Ladders compute: where the tests stand in the goal as they are known, `rw (test₁, test₂)` does what
-- `climbs` does. That a ladder stands in the table's order is said beside each ladder, by `refl`.
-- Assumes nothing.
use Prim.Native.Nat.{ℕ}
use mathlib.Core.Path.{◌≡◌, refl}
use mathlib.Core.Bool.{Bool, true, false, cond}
use mathlib.Core.List.{List, [], ◌∷◌}
use Rattle.std.specs.Prelude.{Option, None, Some}
use native.Mathlib.Omega.{arith}
use Rattle.refusal.specs.declared.Refusal.{Refusal}
use Rattle.refusal.specs.Numbers.{numbered}
use Rattle.refusal.specs.Ladder.{Rung, ◌whenever◌, lowest}

-- ---- a ladder that refuses nothing

-- no rung applies
abbrev pub NoneApplies : List Rung → Type 0
NoneApplies [] = Unit {0}
NoneApplies (rung ∷ rungs) = (rung.applies ≡ false) × NoneApplies rungs

passed : {P : Type 0} (test : Bool) (why : Refusal) (lower : Option Refusal) → (lower ≡ None → P)
    → cond test (Some why) lower ≡ None → (test ≡ false) × P
passed true why lower rest e = absurd (let z : ◌≡◌ {A = ℕ} 0 1 = cc in omega arith)
passed false why lower rest e = (refl, rest e)

pub none_applies : (rungs : List Rung) → lowest rungs ≡ None → NoneApplies rungs
none_applies [] e = tt
none_applies (rung ∷ rungs) e =
    passed rung.applies (numbered rung.number) (lowest rungs) (none_applies rungs) e

-- ---- a ladder climbed, as code does it

-- one test after the other: `next` where it does not apply, `stop` where it does, `end` where none is left
pub data Climbs : List Rung → Option Refusal → Type 0 where
  end : Climbs [] None
  stop : {n : ℕ} {a : Bool} {rungs : List Rung} → a ≡ true → Climbs (n whenever a ∷ rungs) (Some (numbered n))
  next : {n : ℕ} {a : Bool} {rungs : List Rung} {o : Option Refusal} → a ≡ false → Climbs rungs o
      → Climbs (n whenever a ∷ rungs) o

pub climbs : (rungs : List Rung) {o : Option Refusal} → Climbs rungs o → o ≡ lowest rungs
climbs _ end = refl
climbs _ (stop e) = rw e
climbs _ (next {rungs = rungs} e rest) = rw e (climbs rungs rest)

-- ---- two ladders

-- the same refusals, and each test agrees where no rung before it applies
pub data Alike : List Rung → List Rung → Type 0 where
  done : Alike [] []
  same : {n : ℕ} {a b : Bool} {rungs others : List Rung} → a ≡ b → (b ≡ false → Alike rungs others)
      → Alike (n whenever a ∷ rungs) (n whenever b ∷ others)

pub lowest_same : (rungs others : List Rung) → Alike rungs others → lowest rungs ≡ lowest others
lowest_same _ _ done = refl
lowest_same _ _ (same {b = true} e rest) = rw e
lowest_same _ _ (same {b = false} {rungs = rungs} {others = others} e rest) =
    rw e (lowest_same rungs others (rest refl))
