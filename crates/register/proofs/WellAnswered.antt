-- Every READ ends exactly one read, and every WROTE or SPENT exactly one write (001, section 3: well-formed
-- histories).
--
-- Why: what a client answers it has open (`Open`), so the answer is the next of its kind after a beginning.
-- It ends no other operation: a second beginning of the same client before the answer would have found the
-- client busy, or the first one ended. This shuts out a read that is shown twice, which demand 3 by its words
-- does not see.
-- Assumes nothing.
use Rattle.basics.proofs.Prelude.{◌≡◌, inl, inr, ℕ, ◌<◌, arith}
use Rattle.basics.proofs.Cases.{by_either, clash}
use Rattle.basics.proofs.Ranges.{neither_below}
use Rattle.register.proofs.Vocabulary.{AnswersRead, AnswersWrite}
use Rattle.register.proofs.Vocabulary.{Pair, Reading}
use Rattle.register.proofs.Run.{Run}
use Rattle.register.proofs.ReadStatus.{begins_idle, read_status}
use Rattle.register.proofs.WriteStatus.{in_phase_lem, write_status}
use Rattle.register.proofs.Open.{shows_open, open_read, ends_open}
use Rattle.register.proofs.Translation.{ReadEndsIn, WriteEndsIn, read_began, write_began, read_begins}
use Rattle.register.proofs.Translation.{write_begins, reads_in_lem, reads_out, writes_in, writes_out}

module _ (run : Run) where
  -- of two reads that a READ ends neither began before the other
  one_read : {j d : ℕ} {pair : Pair} {early late : ℕ} → ReadEndsIn run early d j pair
      → ReadEndsIn run late d j pair → early < late → ⊥
  one_read {d = d} {early = early} {late = late} ends ends' lt =
      let idle = begins_idle run late d Reading (read_begins run ends'.begins) in
      let later = ends'.later in
      let inside = ends'.ends.in_list in
      by_either (read_status run early d (read_begins run ends.begins) late lt)
      (λ status. let h = status.phase in clash (cc)) (λ status. let before = status.before in
      ends.next status.at status.after (omega arith) status.how.pair
      (reads_out run (omega arith) status.how.reads))

  one_write : {j d early late : ℕ} → WriteEndsIn run early d j → WriteEndsIn run late d j → early < late → ⊥
  one_write {d = d} {early = early} {late = late} ends ends' lt =
      let idle = begins_idle run late d _ (write_begins run ends'.begins) in
      let later = ends'.later in
      let inside = ends'.ends.in_list in
      by_either (write_status run early d ends.begins.entry (write_begins run ends.begins) late lt)
      (λ status. in_phase_lem run early d ends.begins.entry late status (λ h. clash (cc)) (λ c h. clash (cc)))
      (λ status. let before = status.before in
      ends.next status.at status.after (omega arith)
      (writes_out run (omega arith) status.how.ends.writes))

  -- the one read that a READ ends
  pub read_answered : (j d : ℕ) (pair : Pair) → AnswersRead run.settings run.judge run.steps j d pair
      → (begin : ℕ) × ReadEndsIn run begin d j pair × ((begin' : ℕ) → ReadEndsIn run begin' d j pair
      → begin' ≡ begin)
  read_answered j d pair answers =
      let status = open_read run j d (shows_open run j d pair (reads_in_lem run answers)) in
      let inside = answers.in_list in
      let before = status.before in
      let ends : ReadEndsIn run status.at d j pair = record {
        begins = read_began run status.at d (omega arith) status.begins;
        later = status.before;
        ends = answers;
        next = λ i lo hi other answers'. status.silent i lo hi (inl (other, reads_in_lem run answers'));
      } in (
        status.at,
        ends,
        λ begin ends'. neither_below begin status.at (one_read ends' ends) (one_read ends ends'),
      )

  -- the one write that a WROTE or SPENT ends
  pub write_answered : (j d : ℕ) → AnswersWrite run.settings run.judge run.steps j d
      → (begin : ℕ) × WriteEndsIn run begin d j × ((begin' : ℕ) → WriteEndsIn run begin' d j → begin' ≡ begin)
  write_answered j d answers =
      let found = ends_open run j d (writes_in run answers) in
      let status = found.1 in
      let inside = answers.in_list in
      let before = status.before in
      let ends : WriteEndsIn run status.at d j = record {
        begins = write_began run status.at d found.0 (omega arith) status.begins;
        later = status.before;
        ends = answers;
        next = λ i lo hi answers'. status.silent i lo hi (inr (writes_in run answers'));
      } in (
        status.at,
        ends,
        λ begin ends'. neither_below begin status.at (one_write ends' ends) (one_write ends ends'),
      )
