-- What a C function answers: 0, or the refusal's number.
-- Assumes nothing.
use Rattle.std.specs.Prelude.{ℕ, Result, Ok, Err}
use Rattle.refusal.specs.declared.Refusal.{Refusal}
use Rattle.refusal.specs.Numbers.{number_of}

abbrev pub status_of : {A : Type 0} → Result A Refusal → ℕ
status_of (Ok given) = 0
status_of (Err why) = number_of why
