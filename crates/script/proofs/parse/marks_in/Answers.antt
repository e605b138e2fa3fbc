-- `marks_in`: the loop keeps the marks from place i on, the last first.
use Rattle.basics.proofs.Prelude.{◌≡◌, refl, sym, ◌∙◌, length, suc, ◌-◌, ◌<◌}
use Rattle.basics.proofs.Prelude.{arith, le-leb, lt-leb, rules}
use lib.Pow.{pow_pos}
use lib.Seq.{drop-length}
use Rattle.register.specs.Settings.{most_servers}
use Rattle.script.specs.Numbers.{all_bytes}
use Rattle.script.specs.Grammar.{is_mark, mark_bits, marks_in}
use Rattle.script.proofs.Texts.{all_fails, sized}
use Rattle.script.proofs.Marks.{all_from, bits_from, bits_lt}
use Rattle.script.proofs.parse.marks_in.Goals as goal

pub returns-then-text-lt1 : goal.returns-then-text-lt1
unfolding marks_in
returns-then-text-lt1 c = simp (lt-leb 1 _ c.if-text-lt1.true)

pub returns-then-text-gt-MARKS : goal.returns-then-text-gt-MARKS
unfolding marks_in
returns-then-text-gt-MARKS c = simp (le-leb 1 _ c.if-text-lt1.false, lt-leb _ most_servers c.if-text-gt-MARKS.true)

pub loop-i-init : goal.loop-i-init
unfolding all_bytes mark_bits
loop-i-init c =
    let bytes = c.args.text.now in
    (search rules, rw (drop-length bytes) refl, rw (drop-length bytes) refl, pow_pos _)

pub returns-then-not-is_mark : goal.returns-then-not-is_mark
unfolding marks_in
returns-then-not-is_mark c =
    let bytes = c.args.text.now in
    let fits = sized bytes most_servers c.if-text-lt1.false c.if-text-gt-MARKS.false in
    let no_mark = sym c.is_mark.ensures ∙ c.if-not-is_mark.true in
    simp (fits, all_fails is_mark bytes (c.loop-i.i - 1) (omega arith) no_mark)

-- where the loop goes on: the byte is a mark, and the marks passed so far are those behind its place
pub loop-i-preserved : goal.loop-i-preserved
loop-i-preserved c =
    let loop = c.loop-i in
    let bytes = c.args.text.now in
    let place = loop.i - 1 in
    let is = sym c.is_mark.ensures ∙ c.if-not-is_mark.false in
    let next : suc place ≡ loop.i = omega arith in
    let inside : place < length bytes = omega arith in (
      omega arith,
      all_from bytes place inside is (rw next loop.invariant.1),
      bits_from bytes place inside loop.value (rw next loop.invariant.2),
      bits_lt bytes place inside loop.value is (rw next loop.invariant.3),
    )

pub returns : goal.returns
unfolding marks_in
returns c =
    let loop = c.loop-i in
    let none : loop.i ≡ 0 = omega arith in
    let fits = sized c.args.text.now most_servers c.if-text-lt1.false c.if-text-gt-MARKS.false in
    simp (fits, rw none at loop.invariant.1, rw none at loop.invariant.2)
