-- `print`: the number, and what stands behind it; a buffer that could be too short is left as it is.
use Rattle.basics.proofs.Prelude.{◌≡◌, ap, ◌∙◌, subst, List, length, ℕ, ◌≤◌, zero-add, arith, le-leb}
use Rattle.script.specs.declared.print.Numeral.{Numeral}
use Rattle.script.specs.declared.print.Output.{Output}
use Rattle.script.specs.Numbers.{decimal}
use Rattle.script.specs.Numerals.{numeral_of}
use Rattle.script.specs.Printed.{behind_number, printed, longest, Shown}
use Rattle.script.specs.Writing.{Written, Begun}
use Rattle.script.proofs.Numerals.{number_is_lem, own_number, rest_room, line_written}
use Rattle.script.proofs.print.print.Goals as goal

pub put_numeral-number_end-requires : goal.put_numeral-number_end-requires
put_numeral-number_end-requires c = (own_number c.args.number c.numeral_of.ensures, omega arith)

pub put_output-requires : goal.put_output-requires
put_output-requires c = rest_room c.numeral_of.result.number {at = 0} (omega arith) c.put_numeral-number_end.ensures

-- the number, by its numeral, and what stands behind it
shown : (number : ℕ) (output : Output) {numeral : Numeral} {before mid : List ℕ} {number_end end : ℕ}
    {after : List ℕ} → numeral ≡ numeral_of number → longest ≤ length before
    → Begun (decimal numeral.number) before 0 number_end mid
    → Written (behind_number output) mid number_end end after
    → Shown (printed number output) before end after
shown number output {numeral} {before} {end = end} {after = after} e room begun rest =
    let same = ap (λ (other : Numeral). other.number) e ∙ number_is_lem number in
    let long = le-leb longest (length before) room in
    let line : Written (printed number output) before 0 end after =
    subst (λ (n : ℕ). Written (printed n output) before 0 end after) same
    (line_written numeral.number output begun rest) in
    record { bytes = simp long (line.ends ∙ zero-add _); holds = simp long line.holds }

pub returns : goal.returns
returns c =
    shown c.args.number c.args.what c.numeral_of.ensures (omega arith) c.put_numeral-number_end.ensures
    c.put_output.ensures
