-- An operation ends once: a read at one step and with one pair, a write at one step.
--
-- Why: the step that began the operation names its client. Of two different ends the earlier would be an
-- answer of that client before the later one, which is its next. And a step has one answer.
-- Assumes nothing.
use Rattle.basics.proofs.Prelude.{◌≡◌, sym, subst, List, ℕ}
use Rattle.basics.proofs.Ranges.{neither_below}
use Rattle.register.proofs.Vocabulary.{Settings, Step, Formats, answer_at, ReadBegins, WriteBegins, Ok}
use Rattle.register.proofs.Vocabulary.{ReadEnds, WriteEnds}
use Rattle.register.proofs.Vocabulary.{Pair, Read}

module _ (settings : Settings) (judge : Formats) (steps : List Step) where
  -- the client of a read, and of a write
  read_client : (begin d d' : ℕ) → ReadBegins settings judge steps begin d
      → ReadBegins settings judge steps begin d' → d ≡ d'
  read_client begin d d' begun begun' = let s = begun.step in let s' = begun'.step in cc

  write_client : (begin d d' : ℕ) → WriteBegins settings judge steps begin d
      → WriteBegins settings judge steps begin d' → d ≡ d'
  write_client begin d d' begun begun' = let s = begun.step in let s' = begun'.step in cc

  pub read_ends_once : (begin d j : ℕ) (pair : Pair) (d' j' : ℕ) (pair' : Pair)
      → ReadEnds settings judge steps begin d j pair → ReadEnds settings judge steps begin d' j' pair'
      → (d ≡ d') × (j ≡ j') × (pair ≡ pair')
  read_ends_once begin d j pair d' j' pair' ends ends' =
      let client = read_client begin d d' ends.begins ends'.begins in
      let mine : ReadEnds settings judge steps begin d j' pair' =
      subst (λ (z : ℕ). ReadEnds settings judge steps begin z j' pair') (sym client) ends' in
      let step = neither_below j j' (λ less. mine.next j ends.later less pair ends.ends)
      (λ less. ends.next j' mine.later less pair' mine.ends) in
      let a : answer_at settings judge steps j' ≡ Ok (Read pair) =
      subst (λ (z : ℕ). answer_at settings judge steps z ≡ Ok (Read pair)) step ends.ends.answer in
      let a' = ends'.ends.answer in
      (client, step, cc)

  pub write_ends_once : (begin d j d' j' : ℕ) → WriteEnds settings judge steps begin d j
      → WriteEnds settings judge steps begin d' j' → (d ≡ d') × (j ≡ j')
  write_ends_once begin d j d' j' ends ends' =
      let client = write_client begin d d' ends.begins ends'.begins in
      let mine : WriteEnds settings judge steps begin d j' =
      subst (λ (z : ℕ). WriteEnds settings judge steps begin z j') (sym client) ends' in (
        client,
        neither_below j j' (λ less. mine.next j ends.later less ends.ends)
            (λ less. ends.next j' mine.later less mine.ends),
      )
