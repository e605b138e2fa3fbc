-- What a step gives: its answer and the memory after it, the servers, the clients and the slots; or its
-- refusal.
-- Assumes nothing.
use Rattle.std.specs.Prelude.{ℕ, List, Err}
use Rattle.std.specs.Prelude.{Option, None, Some}
use Rattle.refusal.specs.declared.Refusal.{Refusal}
use Rattle.register.specs.World.{StepAnswer}

-- its answer, and the three arrays after it
pub record After : Type 0 where
  pub answer : StepAnswer
  pub servers : List ℕ
  pub clients : List ℕ
  pub slots : List ℕ

abbrev pub after : StepAnswer → List ℕ → List ℕ → List ℕ → After
after answer servers clients slots =
    record { answer = answer; servers = servers; clients = clients; slots = slots }

-- 01's answer: WENT, READ, WROTE or SPENT as the step gives it, or REFUSED 3 to 12, in what was there, `kept`
abbrev pub unless : {A : Type 0} → Option Refusal → (StepAnswer → A) → A → A
unless None kept result = result
unless (Some why) kept result = kept (Err why)
