-- The kit's words that most proofs use, gathered so that a file imports them in a line or two: equality,
-- tests, lists, options, numbers, and what answers a need. Nothing is defined here.
-- Assumes nothing.
pub use mathlib.Core.Path.{◌≡◌, refl, sym, ap, ◌∙◌, subst}
pub use mathlib.Core.Bool.{Bool, true, false, cond, not, ◌&&◌, ◌||◌}
pub use mathlib.Core.Logic.{◌⊎◌, inl, inr, ⊎_elim, ◌≢◌}
pub use mathlib.Core.List.{List, [], ◌∷◌, ◌++◌, append_assoc, append-nil}
pub use Rattle.std.specs.Prelude.{Option, None, Some}
pub use lib.ListN.{length, get_or, set, take, drop, replicate, length-append, length-drop, length-set}
pub use lib.Seq.{length-take-le}
pub use Prim.Native.Nat.{ℕ, zero, suc, ◌+◌, ◌-◌, ◌*◌, ◌/◌, ◌%◌, ◌^◌, ◌≤◌, ◌<◌}
pub use native.Mathlib.Nat.{le_refl, le_trans, not-suc-le-zero, add-zero, zero-add}
pub use native.Mathlib.Numerals.{add-one}
pub use native.Mathlib.Omega.{arith}
pub use lib.Dec.{eqb, leb, ltb}
pub use borrow.Author.Tests.{eqb-true, eqb-false, eq-eqb, ne_eqb, leb-true, leb-false, le-leb, lt-leb}
pub use borrow.Author.Tests.{ltb-true, ltb-false, lt-ltb, le-ltb, not-true, not-false}
pub use borrow.Author.Rules.{rules}
