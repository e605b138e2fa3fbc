-- Numbers and refusals are one to one.
--
-- The number of each refusal gives that refusal back (`numbered_number`: thirteen cases, each computed), so
-- two refusals of one number are one (`one_to_one`). And each number of the table is that of the refusal it
-- gives (`number_numbered`): computed for 1 to 13, one after the other.
-- Assumes nothing.
use Prim.Native.Nat.{ℕ, zero, suc, ◌≤◌}
use mathlib.Core.Path.{◌≡◌, refl, sym, ap, ◌∙◌}
use mathlib.Core.Logic.{⊎_elim}
use native.Mathlib.Nat.{le-suc_iff}
use native.Mathlib.Omega.{arith}
use Rattle.refusal.specs.declared.Refusal.{Refusal}
use Rattle.refusal.specs.declared.Refusal.TheVariants as no
use Rattle.refusal.specs.Numbers.{number_of, numbered}

pub numbered_number : (why : Refusal) → numbered (number_of why) ≡ why
numbered_number no.BadSettings = refl
numbered_number no.TooManyFaulty = refl
numbered_number no.Unsound = refl
numbered_number no.NoSuchProcess = refl
numbered_number no.WrongRole = refl
numbered_number no.Stopped = refl
numbered_number no.Busy = refl
numbered_number no.NoEntry = refl
numbered_number no.Malformed = refl
numbered_number no.EmptyChannel = refl
numbered_number no.Exhausted = refl
numbered_number no.FullChannel = refl
numbered_number no.ShortBuffer = refl

pub one_to_one : (why other : Refusal) → number_of why ≡ number_of other → why ≡ other
one_to_one why other e = sym (numbered_number why) ∙ ap numbered e ∙ numbered_number other

-- each number from 1 to k is that of the refusal it gives
abbrev GivenBack : ℕ → Type 0
GivenBack zero = Unit {0}
GivenBack (suc k) = GivenBack k × (number_of (numbered (suc k)) ≡ suc k)

within : (k n : ℕ) → GivenBack k → 1 ≤ n → n ≤ k → number_of (numbered n) ≡ n
within zero n given low high = absurd (let z : ⊥ = omega arith in z)
within (suc k) n given low high =
    ⊎_elim (λ h. within k n given.0 low h) (λ (e : n ≡ suc k). rw e given.1) (le-suc_iff.0 high)

thirteen : GivenBack 13
thirteen =
    (((((((((((((tt, refl), refl), refl), refl), refl), refl), refl), refl), refl), refl), refl), refl), refl)

pub number_numbered : (n : ℕ) → 1 ≤ n → n ≤ 13 → number_of (numbered n) ≡ n
number_numbered n low high = within 13 n thirteen low high
