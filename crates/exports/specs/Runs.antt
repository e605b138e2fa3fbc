-- A whole run in numbers, as `system` has them: the answers of the steps.
-- Assumes nothing.
use Rattle.refusal.specs.declared.Refusal.{Refusal}
use Rattle.std.specs.Prelude.{ℕ, List, Result, Ok, Err}
use Rattle.register.specs.Formats.{formats}
use Rattle.register.specs.History.{answer_at}
use Rattle.state.specs.declared.Settings.{Settings}
use Rattle.state.specs.State.{settings_of}
use Rattle.system.specs.Run.{steps_in, answered, how_many}

-- the answers that the history has for the first n steps, written over what memory held
abbrev pub answers_by : Settings → List ℕ → ℕ → List ℕ → List ℕ
answers_by settings steps n out =
    answered (answer_at (settings_of settings) formats (steps_in steps n)) out n

-- after an accepted setup the answers of all steps that both have room for; a refused one leaves memory as it
-- was
abbrev pub answers_of : Result Settings Refusal → List ℕ → List ℕ → List ℕ
answers_of (Ok settings) steps out = answers_by settings steps (how_many steps out) out
answers_of (Err why) steps out = out
