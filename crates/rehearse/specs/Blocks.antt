-- A block of input and its lines, and the program on a whole input that comes in parts.
--
-- In order: the whole lines of a text, and the line that is cut; what the lines of a block leave; a block
-- of what was kept and what was read; the program, part by part.
-- Assumes nothing.
use Rattle.std.specs.Prelude.{ℕ, ◌+◌, ◌*◌, ◌≡◌, List, [], ◌∷◌, ◌++◌, length, take, drop, None}
use Rattle.script.specs.Lines.{newline, whole_lines, most}
use Rattle.script.specs.Numerals.{numeral_of}
use Rattle.script.specs.Printed.{longest}
use Rattle.script.specs.Writing.{Written}
use Rattle.register.specs.World.{new_world}
use Rattle.state.specs.State.{store_servers, store_clients, store_slots}
use Rattle.rehearse.specs.declared.lines.Turn.{Turn}
use Rattle.rehearse.specs.Stage.{Stage, stage, text_of, stage_after}

-- ---- the whole lines of a text, and what stands behind them

-- the bytes of lines with their ends
unfoldable pub length_of : List (List ℕ) → ℕ
length_of [] = 0
length_of (text ∷ texts) = length text + 1 + length_of texts

-- what stands behind them: the line that is cut, if there is one
abbrev pub cut_line : List ℕ → List ℕ
cut_line text = drop (length_of (whole_lines text)) text

-- ---- what the lines of a block leave

-- what the program knows, with its memory
abbrev pub stage_in : Turn → List ℕ → List ℕ → List ℕ → Stage
stage_in known servers clients slots =
    stage known.settings servers clients slots known.number.number

-- every whole line is obeyed: its text is written, and the program knows what it knows after it
pub record LinesDone (first : Turn) (input servers clients slots out : List ℕ)
    (last : Turn) (servers' clients' slots' out' : List ℕ) : Type 0 where
  pub state : stage_in last servers' clients' slots'
      ≡ stage_after (stage_in first servers clients slots) (whole_lines input)
  pub numeral : last.number ≡ numeral_of last.number.number
  pub text : Written (text_of (stage_in first servers clients slots) (whole_lines input)) out 0 last.used out'
  pub place : last.at ≡ length_of (whole_lines input)

-- ---- a block

-- its bytes, at most, and those that its lines print
abbrev pub input_bytes : ℕ
input_bytes = 16384

abbrev pub output_bytes : ℕ
output_bytes = input_bytes * longest

-- the last line gets its end, if there is one
abbrev pub closed : List ℕ → List ℕ
closed [] = []
closed (x ∷ xs) = x ∷ xs ++ newline ∷ []

-- what was kept, and what was read behind it; where nothing was, the input has ended
abbrev pub joined : List ℕ → List ℕ → List ℕ
joined cut [] = closed cut
joined cut (x ∷ xs) = cut ++ x ∷ xs

-- ---- the program, part by part

-- what it knows, what it keeps of a line that is cut, and all that it has written
pub record Progress : Type 0 where
  pub known : Stage
  pub cut : List ℕ
  pub wrote : List ℕ

abbrev pub progress : Stage → List ℕ → List ℕ → Progress
progress known cut wrote = record { known = known; cut = cut; wrote = wrote }

-- at first no setup was accepted, and the next line is number 0; no step reaches the system that is there
abbrev pub beginning : Stage
beginning = stage None (store_servers new_world) (store_clients new_world) (store_slots new_world) 0

-- it reads some bytes, and writes the text of the lines that are then whole
abbrev pub turn : Progress → List ℕ → Progress
turn so_far bytes =
    progress (stage_after so_far.known (whole_lines (so_far.cut ++ bytes)))
    (take most (cut_line (so_far.cut ++ bytes)))
    (so_far.wrote ++ text_of so_far.known (whole_lines (so_far.cut ++ bytes)))

unfoldable pub turns : Progress → List (List ℕ) → Progress
turns so_far [] = so_far
turns so_far (part ∷ parts) = turns (turn so_far part) parts

-- all that it has written when the input has ended
abbrev pub ending : Progress → List ℕ
ending so_far = so_far.wrote ++ text_of so_far.known (whole_lines (closed so_far.cut))

-- the whole input
unfoldable pub input_of : List (List ℕ) → List ℕ
input_of [] = []
input_of (part ∷ parts) = part ++ input_of parts
