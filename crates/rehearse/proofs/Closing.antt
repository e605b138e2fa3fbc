-- A block: what was kept stands at its start, and behind it what was read, or the end of the last line.
--
-- In order: what was kept and read, by whether there is something; the three blocks.
-- Assumes nothing.
use Rattle.basics.proofs.Prelude.{◌≡◌, refl, sym, ap, ◌∙◌, List, [], ◌∷◌, ◌++◌, append_assoc, length, set}
use Rattle.basics.proofs.Prelude.{take, drop, length-append, length-drop, length-take-le, ℕ, suc, ◌+◌, ◌≤◌}
use Rattle.basics.proofs.Prelude.{◌<◌, arith}
use lib.ListN.{length-take, take-append-drop}
use lib.Seq.{take-add, set_split}
use Rattle.basics.proofs.Cases.{clash}
use Rattle.script.specs.Writing.{Written}
use Rattle.script.proofs.Writing.{reads, written_none}
use Rattle.script.specs.Lines.{newline}
use Rattle.rehearse.specs.Blocks.{joined}

-- ---- what was kept and read

joined_some : (cut xs : List ℕ) → 0 < length xs → joined cut xs ≡ cut ++ xs
joined_some cut [] h = clash (omega arith)
joined_some cut (x ∷ xs) h = refl

joined_last : (cut xs : List ℕ) → length xs ≤ 0 → 0 < length cut → joined cut xs ≡ cut ++ newline ∷ []
joined_last [] [] h g = clash (omega arith)
joined_last (y ∷ cut) [] h g = refl
joined_last cut (x ∷ xs) h g = clash (omega arith)

joined_none : (cut xs : List ℕ) → length xs ≤ 0 → length cut ≤ 0 → joined cut xs ≡ []
joined_none [] [] h g = refl
joined_none (y ∷ cut) [] h g = clash (omega arith)
joined_none cut (x ∷ xs) h g = clash (omega arith)

-- ---- the blocks

module _ (block : List ℕ) (have more : ℕ) (inside : have < length block)
    (room : have + more ≤ length block) where
  abbrev cut : List ℕ
  cut = take have block

  abbrev bytes : List ℕ
  bytes = take more (drop have block)

  many : length cut ≡ have
  many = length-take-le have block (omega arith)

  few : length bytes ≡ more
  few = rw (length-take more (drop have block), length-drop have block) (omega arith)

  -- something was read
  pub read_some : 0 < more → Written (joined cut bytes) block 0 (have + more) block
  read_some some =
      let kept_long = many in
      let read_long = few in
      let both = joined_some cut bytes (omega arith) in
      let long : length (joined cut bytes) ≡ have + more =
      cc (both, length-append cut bytes, kept_long, read_long) in
      let ends : have + more ≡ 0 + length (joined cut bytes) = omega arith in
      record {
        fits = omega arith;
        ends = ends;
        holds =
            sym (take-append-drop (have + more) block)
            ∙ ap (λ (l : List ℕ). l ++ drop (have + more) block) (take-add have more block ∙ sym both)
            ∙ ap (λ (j : ℕ). joined cut bytes ++ drop j block) ends;
      }

  -- nothing was read, and nothing kept
  pub read_none : more ≤ 0 → have < 1 → Written (joined cut bytes) block 0 0 block
  read_none none empty =
      let kept_long = many in
      let read_long = few in
      reads (record { fits = omega arith; ends = refl; holds = written_none block 0 }) (joined cut bytes)
      (sym (joined_none cut bytes (omega arith) (omega arith)))

  -- nothing was read behind the start of a line, which then is the last one
  pub read_last : more ≤ 0 → 0 < have → Written (joined cut bytes) block 0 (have + 1) (set block have newline)
  read_last none some =
      let kept_long = many in
      let read_long = few in
      let last = joined_last cut bytes (omega arith) (omega arith) in
      let long : length (cut ++ newline ∷ []) ≡ have + 1 =
      length-append cut (newline ∷ []) ∙ rw kept_long refl in
      let ends : suc have ≡ 0 + length (cut ++ newline ∷ []) = omega arith in
      reads
      (record {
        fits = omega arith;
        ends = omega arith;
        holds =
            set_split block have newline inside
            ∙ sym (append_assoc cut (newline ∷ []) (drop (suc have) block))
            ∙ ap (λ (j : ℕ). (cut ++ newline ∷ []) ++ drop j block) ends;
      })
      (joined cut bytes) (sym last)
