-- What the program prints for the lines of a script (01, 'The program rehearse').
--
-- In order: what the program knows between two lines; what it prints of a line; what it knows after the
-- line; lines one after the other.
-- Assumes nothing.
use Rattle.std.specs.Prelude.{ℕ, ◌≡◌, List, [], ◌∷◌, ◌++◌, Option, Some, None, Result, Ok, Err}
use Rattle.refusal.specs.declared.Refusal.{Refusal}
use Rattle.register.specs.declared.Step.{Step}
use Rattle.register.specs.World.{new_world}
use Rattle.script.specs.declared.parse.Line.{Line}
use Rattle.script.specs.declared.parse.Line.TheVariants as line
use Rattle.script.specs.declared.print.Output.{Output}
use Rattle.script.specs.declared.print.Output.TheVariants as output
use Rattle.script.specs.Grammar.{line_of}
use Rattle.script.specs.Numerals.{next_number}
use Rattle.script.specs.Printed.{printed}
use Rattle.state.specs.declared.Settings.{Settings}
use Rattle.state.specs.State.{store_servers, store_clients, store_slots}
use Rattle.steps.specs.After.{After}
use Rattle.system.specs.Setup.{setup_of}
use Rattle.system.specs.Step.{stepped}

-- the settings of the last accepted setup, if there was one, the memory of the system, and the next line's
-- number
pub record Stage : Type 0 where
  pub settings : Option Settings
  pub servers : List ℕ
  pub clients : List ℕ
  pub slots : List ℕ
  pub number : ℕ

abbrev pub stage : Option Settings → List ℕ → List ℕ → List ℕ → ℕ → Stage
stage settings servers clients slots number =
    record { settings = settings; servers = servers; clients = clients; slots = slots; number = number }

-- a step of the system, by its settings
abbrev pub step_on : Stage → Settings → Step → After
step_on known settings step = stepped settings known.servers known.clients known.slots step

-- ---- what is printed

-- SET, or the refusal
abbrev pub setup_output : Result Settings Refusal → Output
setup_output (Ok settings) = output.Set
setup_output (Err why) = output.Answered (Err why)

-- a step before an accepted setup is unreadable
abbrev pub step_output : Stage → Option Settings → Step → Output
step_output known (Some settings) step = output.Answered (step_on known settings step).answer
step_output known None step = output.Unread

unfoldable pub output_of : Stage → Option Line → Output
output_of known (Some (line.Setup asked)) = setup_output (setup_of asked.f asked.n asked.clients asked.faulty)
output_of known (Some (line.Do step)) = step_output known known.settings step
output_of known None = output.Unread

-- ---- what is known after it

-- only the count of lines has changed, or the memory too
abbrev pub counted : Stage → Stage
counted known =
    stage known.settings known.servers known.clients known.slots (next_number known.number)

abbrev pub moved : Stage → After → Stage
moved known result =
    stage known.settings result.servers result.clients result.slots (next_number known.number)

-- an accepted setup sets up afresh, a refused one keeps the present system, or none
abbrev pub set_up : Stage → Result Settings Refusal → Stage
set_up known (Ok settings) =
    stage (Some settings) (store_servers new_world) (store_clients new_world) (store_slots new_world)
    (next_number known.number)
set_up known (Err why) = counted known

-- a step before an accepted setup changes nothing
abbrev pub step_stage : Stage → Option Settings → Step → Stage
step_stage known (Some settings) step = moved known (step_on known settings step)
step_stage known None step = counted known

unfoldable pub after : Stage → Option Line → Stage
after known (Some (line.Setup asked)) = set_up known (setup_of asked.f asked.n asked.clients asked.faulty)
after known (Some (line.Do step)) = step_stage known known.settings step
after known None = counted known

-- a line is obeyed: what is printed of it, and what is known after it, but for the line's number
pub record Obeys (known : Stage) (given : Option Line) (what : Output) (next : ℕ → Stage) : Type 0 where
  pub prints : what ≡ output_of known given
  pub leaves : next (next_number known.number) ≡ after known given

-- ---- lines one after the other

-- what is printed of them, and what is known after them
unfoldable pub text_of : Stage → List (List ℕ) → List ℕ
text_of known [] = []
text_of known (text ∷ texts) =
    printed known.number (output_of known (line_of text)) ++ text_of (after known (line_of text)) texts

unfoldable pub stage_after : Stage → List (List ℕ) → Stage
stage_after known [] = known
stage_after known (text ∷ texts) = stage_after (after known (line_of text)) texts
