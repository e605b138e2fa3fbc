-- Lines of a setup, computed: what `S f n desks marks` says, and that the form before C-11 is unreadable.
--
-- The number of clients differs from n here, and the marks from both, so that each has its own place.
-- Assumes nothing.
use Rattle.basics.proofs.Prelude.{◌≡◌, refl, ℕ}
use Rattle.std.specs.Prelude.{Some, None}
use Rattle.script.specs.declared.parse.Line.{Line}
use Rattle.script.specs.declared.parse.Line.TheVariants.{Setup}
use Rattle.script.specs.Spelt.{spelt}
use Rattle.script.specs.Lines.{up_to, behind}
use Rattle.script.specs.Numbers.{all_bytes, value_from, number_in}
use Rattle.script.specs.Grammar.{numbers_then, mark_bits, marks_in, arguments_of, line_of}

abbrev asked : ℕ → ℕ → ℕ → ℕ → Line
asked f n clients faulty = Setup (record { f = f; n = n; clients = clients; faulty = faulty })

record SetupLines : Type 0 where
  -- one of five servers may be faulty, the last is, and there are two clients
  new_form : line_of (spelt "S 1 5 2 00001") ≡ Some (asked 1 5 2 16)
  -- n out of range is read
  no_server : line_of (spelt "S 0 0 1 0") ≡ Some (asked 0 0 1 0)
  fourteen : line_of (spelt "S 0000001 14 6 1") ≡ Some (asked 1 14 6 1)
  -- the form without n, and one with a number too many
  old_form : line_of (spelt "S 1 2 00001") ≡ None
  more : line_of (spelt "S 1 5 2 3 00001") ≡ None

setup_lines : SetupLines
unfolding line_of arguments_of numbers_then number_in marks_in mark_bits all_bytes value_from up_to behind
setup_lines =
    record { new_form = refl; no_server = refl; fourteen = refl; old_form = refl; more = refl }
