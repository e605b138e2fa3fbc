-- What demand 3 gives to one who has only its statement: each part of it is used here, so none can be
-- weakened unnoticed.
--
-- `not_overwritten` (Lamport's regularity): a read never shows a write after which another write began and
-- ended before the read began. `no_return`: if one read shows a new write although an old one had ended
-- before that read, then a read that begins after the new one has ended does not show the old one; here two
-- rows must agree.
-- `not_the_start`: a read that begins after a write has ended does not show the initial pair.
-- `read_finishes`, `write_finishes`: a quiet client's operations have ended.
-- Assumes nothing.
use Rattle.basics.specs.Members.{Member, At}
use Rattle.basics.proofs.Prelude.{◌≡◌, refl, sym, ap, ◌∙◌, subst, ◌⊎◌, inl, inr, ◌≢◌, List, get_or, ℕ, suc, ◌<◌}
use Rattle.basics.proofs.Prelude.{arith, eqb, eqb-true, eqb-false}
use Rattle.basics.proofs.Cases.{by_test, by_either}
use Rattle.register.specs.Settings.{Settings}
use Rattle.register.specs.Steps.{Step, Formats}
use Rattle.register.specs.History.{ReadBegins, WriteBegins, ReadEnds, WriteEnds, Ends, HasSent, PairOf}
use Rattle.register.specs.History.{Quiet}
use Rattle.register.specs.DemandThree.{Earlier, Legal, first, behind, Row, Holds}
use Rattle.register.proofs.Vocabulary.{Pair, initial}

module _ (settings : Settings) (judge : Formats) (steps : List Step)
    (holds : Holds settings judge steps) where
  -- an operation ends after it began
  ends_later : (operation i : ℕ) → Ends settings judge steps operation i → operation < i
  ends_later operation i (inl e) = e.2.later
  ends_later operation i (inr e) = e.1.later

  -- the write that a read shows stands right before it in its row, if anything stands before it
  record Shows (begin j : ℕ) (shown : ℕ) (row : List ℕ) : Type 0 where
    place : ℕ
    write : At row shown place
    read : At row begin (suc place)
    sooner : shown < j

  has_sent : (pair : Pair) (write : ℕ) → PairOf settings judge steps pair write
      → HasSent settings judge steps write
  has_sent pair write q = record { client = q.client; at = q.at; pair = pair; sends = q.sends }

  module _ (begin d j : ℕ) (pair : Pair) (ends : ReadEnds settings judge steps begin d j pair) where
    abbrev row : List ℕ
    row = holds.row begin

    abbrev is_row : Row settings judge steps begin j pair row
    is_row = holds.rows begin d j pair ends

    here : Member begin row
    here = (is_row.members begin).1 (inl refl)

    written : (write : ℕ) → HasSent settings judge steps write → Member write row
    written write sent = (is_row.members write).1 (inr sent)

    -- a read that stands first has nothing earlier
    nothing_earlier : (operation : ℕ) → Earlier row operation begin → At row begin 0 → ⊥
    nothing_earlier operation earlier at =
        let same =
        is_row.once begin earlier.two 0 earlier.second at in let lt = earlier.before in omega arith

    -- the shown write, where a member stands earlier than the read
    shows : (write operation : ℕ) → PairOf settings judge steps pair write → Earlier row operation begin
        → Shows begin j write row
    shows write operation q earlier = by_place is_row.legal
      where
        by_place : Legal settings judge steps begin j pair row → Shows begin j write row
        by_place (first l) = absurd (nothing_earlier operation earlier l.stands)
        by_place (behind l) =
            let same : l.write ≡ write =
            q.only l.write l.only.client l.only.at l.only.sends in
            record {
              place = l.place;
              write = subst (λ (z : ℕ). At row z l.place) same l.stands;
              read = l.next;
              sooner = subst (λ (z : ℕ). z < j) same l.sooner;
            }

    -- a member that ended before the read began stands no later than the shown write
    at_or_before : (write operation i : ℕ) → PairOf settings judge steps pair write
        → HasSent settings judge steps operation → Ends settings judge steps operation i → i < begin
        → (operation ≡ write) ⊎ Earlier row operation write
    at_or_before write operation i q sent ended lt =
        let before = is_row.order operation begin i (written operation sent) here ended lt in
        let shown = shows write operation q before in
        let last = is_row.once begin before.two (suc shown.place) before.second shown.read in
        let less = before.before in
        by_test (eqb before.one shown.place)
        (λ t. inl (sym before.first.is ∙ ap (λ (n : ℕ). get_or row n 0) (eqb-true _ _ t)
        ∙ shown.write.is)) (λ t. let ne : before.one ≢ shown.place = eqb-false _ _ t in
        inr (record {
          one = before.one;
          two = shown.place;
          first = before.first;
          second = shown.write;
          before = omega arith;
        }))

    -- of two members one does not stand both earlier and later
    not_both : (early late : ℕ) → Earlier row early late → Earlier row late early → ⊥
    not_both early late one other =
        let same = is_row.once early one.one other.two one.first other.second in
        let y = is_row.once late one.two other.one one.second other.first in
        let lt = one.before in
        let lt' = other.before in
        omega arith

    -- Lamport's regularity: a write that ended before a newer one began is not shown if the newer one ended
    -- before the read began
    pub not_overwritten : (write newer i' i : ℕ) → PairOf settings judge steps pair write
        → HasSent settings judge steps newer → Ends settings judge steps write i' → i' < newer
        → Ends settings judge steps newer i → i < begin → ⊥
    not_overwritten write newer i' i q sent ended wa ended' ab =
        let first =
        is_row.order write newer i' (written write (has_sent pair write q)) (written newer sent) ended wa in
        by_either (at_or_before write newer i q sent ended' ab)
        (λ same. let lt = ends_later write i' ended in omega arith)
        (λ after. not_both write newer first after)

    -- a read that begins after a write that sent has ended does not show the initial pair
    pub not_the_start : (write i : ℕ) → HasSent settings judge steps write → Ends settings judge steps write i
        → i < begin → pair ≢ initial
    not_the_start write i sent ended ab e = by_place is_row.legal
      where
        by_place : Legal settings judge steps begin j pair row → ⊥
        by_place (first l) =
            nothing_earlier write (is_row.order write begin i (written write sent) here ended ab) l.stands
        by_place (behind l) = l.shown e

  -- agreement: what one read has passed, no read after it returns to
  pub no_return : (begin₁ d₁ j₁ : ℕ) (pair₁ : Pair) (begin₂ d₂ j₂ : ℕ) (pair₂ : Pair)
      → ReadEnds settings judge steps begin₁ d₁ j₁ pair₁ → ReadEnds settings judge steps begin₂ d₂ j₂ pair₂
      → (old new i i' : ℕ) → old ≢ new → PairOf settings judge steps pair₁ new
      → PairOf settings judge steps pair₂ old → Ends settings judge steps old i → i < begin₁
      → Ends settings judge steps new i' → i' < begin₂ → ⊥
  no_return begin₁ d₁ j₁ pair₁ begin₂ d₂ j₂ pair₂ ends₁ ends₂ old new i i' ne q₁ q₂ ended ab ended' cb =
      let sent = has_sent pair₂ old q₂ in
      let sent' = has_sent pair₁ new q₁ in
      let is_row₁ = holds.rows begin₁ d₁ j₁ pair₁ ends₁ in
      let is_row₂ = holds.rows begin₂ d₂ j₂ pair₂ ends₂ in
      let to₁ = is_row₁.order old begin₁ i (written begin₁ d₁ j₁ pair₁ ends₁ old sent)
      (here begin₁ d₁ j₁ pair₁ ends₁) ended ab in
      let to₂ = is_row₂.order new begin₂ i' (written begin₂ d₂ j₂ pair₂ ends₂ new sent')
      (here begin₂ d₂ j₂ pair₂ ends₂) ended' cb in
      let new₁ = (shows begin₁ d₁ j₁ pair₁ ends₁ new old q₁ to₁).sooner in
      let old₂ = (shows begin₂ d₂ j₂ pair₂ ends₂ old new q₂ to₂).sooner in
      let ai = ends_later old i ended in
      let ck = ends_later new i' ended' in
      let bj₁ = ends₁.later in
      let bj₂ = ends₂.later in
      by_either (at_or_before begin₁ d₁ j₁ pair₁ ends₁ new old i q₁ sent ended ab) ne
      (λ first. by_either (at_or_before begin₂ d₂ j₂ pair₂ ends₂ old new i' q₂ sent' ended' cb)
      (λ e. ne (sym e)) (λ second. not_both begin₂ d₂ j₂ pair₂ ends₂ old new
      ((holds.agree begin₁ d₁ j₁ pair₁ begin₂ d₂ j₂ pair₂ ends₁ ends₂ old new sent sent'
      (omega arith) old₂ new₁ (omega arith)).0 first) second))

  -- the closing clause
  pub read_finishes : (d begin : ℕ) → Quiet settings judge steps d → ReadBegins settings judge steps begin d
      → (j : ℕ) × (pair : Pair) × ReadEnds settings judge steps begin d j pair
  read_finishes d begin quiet begun = (holds.quiet d quiet).reads begin begun

  pub write_finishes : (d begin : ℕ) → Quiet settings judge steps d → WriteBegins settings judge steps begin d
      → (j : ℕ) × WriteEnds settings judge steps begin d j
  write_finishes d begin quiet begun = (holds.quiet d quiet).writes begin begun
