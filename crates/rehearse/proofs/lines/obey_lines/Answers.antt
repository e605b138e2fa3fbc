-- `obey_lines`: the text of the lines so far is written, and the program knows what it knows after them.
-- Each line adds its own.
--
-- In order: the lines so far; their end; one line more.
-- Assumes nothing.
use Rattle.basics.proofs.Prelude.{ap, ◌∙◌, length, ◌+◌, ◌≤◌, rules}
use Rattle.script.specs.declared.print.Numeral.{Numeral}
use Rattle.script.specs.Printed.{longest}
use Rattle.script.proofs.Numerals.{own_number, number_is_lem, rest_room, line_written}
use Rattle.rehearse.proofs.SoFar.{none_yet, room, one_more, at_end, lines_done}
use Rattle.rehearse.proofs.lines.obey_lines.Goals as goal

-- ---- the lines so far

pub loop-found-init : goal.loop-found-init
loop-found-init c = (search none_yet, search rules)

-- ---- the end of the lines

pub returns-then-input-found : goal.returns-then-input-found
returns-then-input-found c =
    let so_far = c.loop-found.invariant in
    lines_done so_far.1
    (at_end so_far.0 _ c.next-found.ensures c.if-input-found.true)

-- ---- one line more

-- the output has room for one line more
pub put_output-used-requires : goal.put_output-used-requires
put_output-used-requires c =
    let free : c.loop-found.used + longest ≤ length c.loop-found.out = search room in
    rest_room _ free c.put_numeral-number_end.ensures

pub loop-found-preserved : goal.loop-found-preserved
loop-found-preserved c =
    let next = c.next_numeral-number in (
      one_more c.loop-found.invariant.0 _ c.next-found.ensures c.if-input-found.false
          (c.obey-what.ensures c.loop-found.number.number)
          (line_written _ _ c.put_numeral-number_end.ensures c.put_output-used.ensures) next.result.number
          (ap (λ (numeral : Numeral). numeral.number) next.ensures ∙ number_is_lem _),
      search own_number,
    )
