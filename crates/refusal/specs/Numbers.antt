-- The numbers of the refusals (01, the table), and the refusal of a number. Other definitions name a refusal
-- by its number; that numbers and refusals are one to one is in `proofs/Numbers`.
-- Assumes nothing.
use Rattle.std.specs.Prelude.{ℕ, cond, eqb}
use Rattle.refusal.specs.declared.Refusal.{Refusal}
use Rattle.refusal.specs.declared.Refusal.TheVariants.{BadSettings, TooManyFaulty, Unsound}
use Rattle.refusal.specs.declared.Refusal.TheVariants.{NoSuchProcess, WrongRole, Stopped, Busy}
use Rattle.refusal.specs.declared.Refusal.TheVariants.{NoEntry, Malformed, EmptyChannel, Exhausted}
use Rattle.refusal.specs.declared.Refusal.TheVariants.{FullChannel, ShortBuffer}

-- the number of a refusal
abbrev pub number_of : Refusal → ℕ
number_of BadSettings = 1
number_of TooManyFaulty = 2
number_of Unsound = 3
number_of NoSuchProcess = 4
number_of WrongRole = 5
number_of Stopped = 6
number_of Busy = 7
number_of NoEntry = 8
number_of Malformed = 9
number_of EmptyChannel = 10
number_of Exhausted = 11
number_of FullChannel = 12
number_of ShortBuffer = 13

-- the refusal that has a number; one that is not in the table gives ShortBuffer, and no definition uses such
abbrev pub numbered : ℕ → Refusal
numbered n =
    cond (eqb n 1) BadSettings
    (cond (eqb n 2) TooManyFaulty
    (cond (eqb n 3) Unsound
    (cond (eqb n 4) NoSuchProcess
    (cond (eqb n 5) WrongRole
    (cond (eqb n 6) Stopped
    (cond (eqb n 7) Busy
    (cond (eqb n 8) NoEntry
    (cond (eqb n 9) Malformed
    (cond (eqb n 10) EmptyChannel
    (cond (eqb n 11) Exhausted
    (cond (eqb n 12) FullChannel ShortBuffer)))))))))))
