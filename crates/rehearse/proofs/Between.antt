-- Between two turns the program is where the definition of its turns has it (`Blocks.turns`), for some parts
-- of input: it knows the same, and what stands at the start of its block is what that keeps.
--
-- Why: each function that a turn calls has equations for its contract, and together they are one turn, with
-- the bytes that were read as its part. A last line without its end gets one, as if it had been read.
-- In order: parts; a block and what is kept of it; one turn more.
-- Assumes nothing.
use Rattle.basics.proofs.Prelude.{◌≡◌, refl, sym, ap, ◌∙◌, subst, List, [], ◌∷◌, ◌++◌, length, take}
use Rattle.basics.proofs.Prelude.{drop, ℕ, zero, suc, ◌+◌, ◌-◌, ◌≤◌, ◌<◌, zero-add, arith}
use lib.ListN.{length-take}
use lib.Seq.{take-nil, take-append_seam}
use Rattle.basics.proofs.Cases.{clash}
use Rattle.script.specs.Lines.{kept, whole_lines, most, newline}
use Rattle.script.specs.Writing.{Written}
use Rattle.script.proofs.Writing.{keeps}
use Rattle.register.specs.World.{new_world}
use Rattle.std.specs.Prelude.{None}
use Rattle.script.specs.declared.print.Numeral.{Numeral}
use Rattle.script.specs.Numerals.{numeral_of}
use Rattle.script.proofs.Numerals.{own_number, number_is_lem}
use Rattle.system.specs.Stored.{Stored}
use Rattle.rehearse.specs.declared.lines.Turn.{Turn}
use Rattle.rehearse.specs.Stage.{stage, stage_after}
use Rattle.rehearse.specs.Blocks.{cut_line, stage_in, LinesDone, joined}
use Rattle.rehearse.specs.Blocks.{Progress, progress, beginning, turn, turns, input_bytes, output_bytes}
use Rattle.rehearse.proofs.Staying.{Sound, stage_sound}

-- ---- parts

-- one part more
turns_more : (start : Progress) (parts : List (List ℕ)) (part : List ℕ)
    → turns start (parts ++ part ∷ []) ≡ turn (turns start parts) part
unfolding turns
turns_more start [] part = refl
turns_more start (first ∷ parts) part = turns_more (turn start first) parts part

-- what a block has behind what was kept: what was read, or the end of the last line
part_of : List ℕ → List ℕ
part_of [] = newline ∷ []
part_of (x ∷ xs) = x ∷ xs

joined_part : (cut xs : List ℕ) → 0 < length (joined cut xs) → joined cut xs ≡ cut ++ part_of xs
unfolding part_of
joined_part [] [] h = clash (omega arith)
joined_part (y ∷ cut) [] h = refl
joined_part cut (x ∷ xs) h = refl

-- ---- a block, and what is kept of it

-- what is written at the start of a buffer is what the buffer starts with
pub starts : {text before after : List ℕ} {end : ℕ} → Written text before 0 end after → take end after ≡ text
starts {text} {before} {after} {end} first =
    let many : end ≡ length text = first.ends ∙ zero-add (length text) in
    cc (many, first.holds, take-append_seam text (drop (0 + length text) before))

-- a part of a list, from a place on up to another
part_is : (at end : ℕ) (bytes : List ℕ) → take (end - at) (drop at bytes) ≡ drop at (take end bytes)
part_is zero end bytes = let e : end - 0 ≡ end = omega arith in ap (λ (k : ℕ). take k bytes) e
part_is (suc at) zero bytes =
    let e : 0 - suc at ≡ 0 = omega arith in ap (λ (k : ℕ). take k (drop (suc at) bytes)) e
part_is (suc at) (suc end) [] = take-nil (suc end - suc at)
part_is (suc at) (suc end) (x ∷ bytes) =
    let e : suc end - suc at ≡ end - at = omega arith in
    ap (λ (k : ℕ). take k (drop at bytes)) e ∙ part_is at end bytes

kept_is : (bytes block : List ℕ) (at end : ℕ) → take end bytes ≡ block
    → kept bytes at end ≡ take most (drop at block)
kept_is bytes block at end e = ap (take most) (part_is at end bytes ∙ ap (drop at) e)

-- ---- one turn more

-- the program, with its memory, has `have` bytes of a line at the start of its block
pub record Between (left : Turn) (servers clients slots input : List ℕ) (have : ℕ) (out : List ℕ)
    : Type 0 where
  pub parts : List (List ℕ)
  pub known : stage_in left servers clients slots ≡ (turns (progress beginning [] []) parts).known
  pub numeral : left.number ≡ numeral_of left.number.number
  pub cut : take have input ≡ (turns (progress beginning [] []) parts).cut
  pub sound : Sound (stage_in left servers clients slots)
  pub few : have ≤ most
  pub long : length input ≡ input_bytes
  pub wide : length out ≡ output_bytes

-- at first nothing was read
pub none_read : {numeral : Numeral} {servers clients slots input out : List ℕ} → numeral ≡ numeral_of 0
    → Stored new_world servers clients slots → length input ≡ input_bytes → length out ≡ output_bytes
    → Between (record { settings = None; number = numeral; at = 0; used = 0 }) servers clients slots input 0 out
unfolding turns
none_read {numeral} is stored long wide =
    let number : numeral.number ≡ 0 = ap (λ (other : Numeral). other.number) is ∙ number_is_lem 0 in
    record {
      parts = [];
      known = λ k. stage None (stored.servers k) (stored.clients k) (stored.slots k) (number k);
      numeral = own_number 0 is;
      cut = refl;
      sound = tt;
      few = omega arith;
      long = long;
      wide = wide;
    }

-- bytes were read behind what was kept, the block was closed, its lines taken, and the cut one kept
module _ {left : Turn} {servers clients slots input : List ℕ} {have : ℕ} {out : List ℕ}
    (so_far : Between left servers clients slots input have out)
    (read bytes : List ℕ) (same : take have read ≡ take have input)
    {closed : List ℕ} {total : ℕ} (block : Written (joined (take have read) bytes) read 0 total closed)
    (some : 1 ≤ total)
    {left' : Turn} {servers' clients' slots' out' : List ℕ}
    (done : LinesDone left (take total closed) servers clients slots out left' servers' clients' slots' out')
    {have' : ℕ} {next : List ℕ} (keeping : Written (kept closed left'.at total) closed 0 have' next) where
  abbrev before : Progress
  before = turns (progress beginning [] []) so_far.parts

  abbrev part : List ℕ
  part = part_of bytes

  block_is : take total closed ≡ before.cut ++ part
  block_is =
      let ends = block.ends in
      cc (starts block, joined_part (take have read) bytes (omega arith), same, so_far.cut)

  known_is : stage_in left' servers' clients' slots'
      ≡ stage_after before.known (whole_lines (before.cut ++ part))
  known_is = done.state ∙ (λ i. stage_after (so_far.known i) (whole_lines (block_is i)))

  cut_is : take have' next ≡ take most (cut_line (before.cut ++ part))
  cut_is =
      cc (
        starts keeping,
        kept_is closed (before.cut ++ part) left'.at total block_is,
        done.place,
        block_is,
      )

  pub one_turn : length read ≡ input_bytes → length out' ≡ length out
      → Between left' servers' clients' slots' next have' out'
  one_turn long wide =
      let turned = turns_more (progress beginning [] []) so_far.parts part in
      let ends = keeping.ends in
      let closed_long = keeps block in
      let next_long = keeps keeping in
      let was_wide = so_far.wide in
      let short : length (kept closed left'.at total) ≤ most = simp length-take (omega arith) in
      record {
        parts = so_far.parts ++ part ∷ [];
        known = known_is ∙ sym (ap (λ (other : Progress). other.known) turned);
        numeral = done.numeral;
        cut = cut_is ∙ sym (ap (λ (other : Progress). other.cut) turned);
        sound =
            subst Sound (sym done.state) (stage_sound _ (whole_lines (take total closed)) so_far.sound);
        few = omega arith;
        long = omega arith;
        wide = omega arith;
      }
