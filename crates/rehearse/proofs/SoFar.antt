-- Lines taken one by one: the text of one line more stands behind the text of the others, and what is known
-- after it follows from what was known before. There is room for it, since no line prints more than 80
-- bytes.
--
-- In order: the lines so far; one line more; the end of the lines.
-- Assumes nothing.
use Rattle.basics.proofs.Prelude.{◌≡◌, refl, sym, ap, ◌∙◌, subst, List, [], ◌∷◌, ◌++◌, append-nil}
use Rattle.basics.proofs.Prelude.{length, drop, ℕ, ◌+◌, ◌*◌, ◌≤◌, ◌<◌, arith}
use Rattle.std.specs.Prelude.{Option}
use lib.Seq.{append_snoc}
use Rattle.script.specs.declared.next.Found.{Found}
use Rattle.script.specs.declared.print.Numeral.{Numeral}
use Rattle.script.specs.declared.print.Output.{Output}
use Rattle.script.specs.Grammar.{line_of}
use Rattle.script.specs.Lines.{part, line_end, whole_lines}
use Rattle.script.specs.Next.{found_at}
use Rattle.script.specs.Numerals.{next_number, numeral_of}
use Rattle.script.specs.Printed.{printed, longest}
use Rattle.script.specs.Writing.{Written}
use Rattle.script.proofs.Lengths.{printed_short}
use Rattle.script.proofs.Writing.{then, reads, keeps, written_none}
use Rattle.state.specs.declared.Settings.{Settings}
use Rattle.rehearse.specs.declared.lines.Turn.{Turn}
use Rattle.rehearse.specs.Stage.{Stage, stage, output_of, after, Obeys, text_of, stage_after}
use Rattle.rehearse.specs.Blocks.{length_of, stage_in, LinesDone}
use Rattle.rehearse.proofs.Scripts.{stage_more, text_more, length_more}
use Rattle.rehearse.proofs.Scripts.{next_line, line_length, no_line}
use Rattle.rehearse.proofs.Staying.{Sound, line_sound}

-- ---- the lines so far

pub record SoFar (first : Stage) (input out : List ℕ) (known : Stage) (at used : ℕ) (out' : List ℕ)
    : Type 0 where
  pub lines : List (List ℕ)
  pub split : whole_lines input ≡ lines ++ whole_lines (drop at input)
  pub place : at ≡ length_of lines
  pub within : at ≤ length input
  pub text : Written (text_of first lines) out 0 used out'
  pub state : known ≡ stage_after first lines
  pub few : used ≤ at * longest
  pub sound : Sound known

module _ {first : Stage} {input out : List ℕ} where
  -- before the first line
  pub none_yet : Sound first → SoFar first input out first 0 0 out
  unfolding text_of stage_after length_of
  none_yet sound =
      record {
        lines = [];
        split = refl;
        place = refl;
        within = omega arith;
        text = record { fits = omega arith; ends = refl; holds = written_none out 0 };
        state = refl;
        few = omega arith;
        sound = sound;
      }

  module _ {known : Stage} {at used : ℕ} {mid : List ℕ} (so_far : SoFar first input out known at used mid)
      (found : Found) (is : found ≡ found_at input at) where
    ends : found.end ≡ line_end input at
    ends = ap (λ (other : Found). other.end) is

    module _ (less : found.end < length input) where
      -- there is room for what is printed of the next line
      pub room : length input * longest ≤ length out → used + longest ≤ length mid
      room wide =
          let same = keeps so_far.text in
          let few = so_far.few in
          let end = ends in
          omega arith

      -- ---- one line more
      abbrev text : List ℕ
      text = part input at found.end

      reads_as : found.line ≡ line_of text
      reads_as = cc (is, ends)

      pub one_more : {what : Output} {next : ℕ → Stage} → Obeys known found.line what next
          → {used' : ℕ} {out' : List ℕ} → Written (printed known.number what) mid used used' out'
          → (number : ℕ) → number ≡ next_number known.number
          → SoFar first input out (next number) (found.end + 1) used' out'
      one_more {what} {next} obeys {used'} line number is_next =
          let leads : next number ≡ after known found.line = ap next is_next ∙ obeys.leaves in
          let short = printed_short known.number what in
          let fits = line.ends in
          let few = so_far.few in
          let end = ends in
          record {
            lines = so_far.lines ++ text ∷ [];
            split =
                cc (
                  so_far.split,
                  next_line input at found.end so_far.within ends less,
                  append_snoc so_far.lines text (whole_lines (drop (found.end + 1) input)),
                );
            place =
                sym (line_length input at found.end so_far.within ends less)
                ∙ ap (λ (k : ℕ). k + (length text + 1)) so_far.place
                ∙ sym (length_more so_far.lines text);
            within = omega arith;
            text =
                reads (then so_far.text line) (text_of first (so_far.lines ++ text ∷ []))
                (ap (λ (o : Output). text_of first so_far.lines ++ printed known.number o)
                (obeys.prints ∙ ap (output_of known) reads_as)
                ∙ ap (λ (other : Stage). text_of first so_far.lines
                ++ printed other.number (output_of other (line_of text))) so_far.state
                ∙ sym (text_more first so_far.lines text));
            state =
                leads ∙ ap (after known) reads_as
                ∙ ap (λ (other : Stage). after other (line_of text)) so_far.state
                ∙ sym (stage_more first so_far.lines text);
            few = omega arith;
            sound = subst Sound (sym leads) (line_sound known found.line so_far.sound);
          }

    -- ---- the end of the lines: where no whole line is left, all are taken

    all : length input ≤ found.end → so_far.lines ≡ whole_lines input
    all far =
        cc (
          append-nil so_far.lines,
          no_line input at found.end so_far.within ends far,
          so_far.split,
        )

    pub at_end : length input ≤ found.end → (Written (text_of first (whole_lines input)) out 0 used mid)
        × (known ≡ stage_after first (whole_lines input))
        × (at ≡ length_of (whole_lines input))
    at_end far = (
      reads so_far.text (text_of first (whole_lines input)) (ap (text_of first) (all far)),
      so_far.state ∙ ap (stage_after first) (all far),
      so_far.place ∙ ap length_of (all far),
    )

-- what the code answers there
pub lines_done : {left : Turn} {input out servers clients slots servers' clients' slots' out' : List ℕ}
    {settings : Option Settings} {numeral : Numeral} {at used : ℕ} → numeral ≡ numeral_of numeral.number
    → (Written (text_of (stage_in left servers clients slots) (whole_lines input)) out 0 used out')
    × (stage settings servers' clients' slots' numeral.number
    ≡ stage_after (stage_in left servers clients slots) (whole_lines input))
    × (at ≡ length_of (whole_lines input))
    → LinesDone left input servers clients slots out
    (record { settings = settings; number = numeral; at = at; used = used }) servers' clients' slots' out'
lines_done own facts = record { state = facts.1; numeral = own; text = facts.0; place = facts.2 }
