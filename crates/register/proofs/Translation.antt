-- From the words of the history to the events of the run, and back.
--
-- The history is about steps and answers, the proof about events. An answer that is no refusal is an accepted
-- step's (`not_refused`), so an accepted R or W is a beginning and an answered D takes a message; and each
-- event tells which step it came from (`From`). In order: one step; beginnings, answers, sends and ends of a
-- run.
-- Assumes nothing.
use Rattle.basics.proofs.Prelude.{◌≡◌, refl, sym, ap, ◌∙◌, subst, length, ℕ, ◌<◌, le_refl, arith}
use Rattle.basics.proofs.Cases.{by_either, by_list, by_option, clash}
use Rattle.refusal.specs.declared.Refusal.{Refusal}
use Rattle.message.specs.Layout.{Unpacked}
use Rattle.register.proofs.Vocabulary.{Settings, World, Event, refuses, begins, serves, Ok, Err}
use Rattle.register.proofs.Vocabulary.{takes, stops, lies, answer_of, Step, R, W, K, D, C, L, Formats}
use Rattle.register.proofs.Vocabulary.{refusal_of, accepted, event_of, ReadBegins, WriteBegins}
use Rattle.register.proofs.Vocabulary.{AnswersRead, AnswersWrite, ReadEnds, WriteEnds, Sends}
use Rattle.register.specs.Steps.{lies_with}
use Rattle.register.proofs.Vocabulary.{Entry, WriteInfo, Pair, Went, Phase, Idle, Reading}
use Rattle.register.proofs.Vocabulary.{ReadingForWrite, Storing}
use Rattle.register.proofs.Bounds.{server_of}
use Rattle.register.proofs.Enabled.{Enabled}
use Rattle.register.proofs.Run.{Run, step_in, world_in, event_in, answer_in, enabled_at, bounded}
use Rattle.register.proofs.Channels.{puts_of, of_puts}
use Rattle.register.proofs.ReadStatus.{TakesAt, ReadsAt, WritesAt}
use Rattle.register.proofs.PutCases.{sends_at}
use Rattle.register.proofs.WriteStatus.{Ending}
use Rattle.register.proofs.Ordered.{Sending}

-- ---- one step

-- the step that an event came from, where it is R, W or D
abbrev pub From : Event → Step → Type 0
From (refuses refusal) step = Unit {0}
From (begins d Idle) step = Unit {0}
From (begins d Reading) step = step ≡ R d
From (begins d (ReadingForWrite entry)) step = step ≡ W d entry
From (begins d (Storing entry count)) step = Unit {0}
From (serves k d message rest) step = Unit {0}
From (takes d k message rest) step = step ≡ D d k
From (stops d) step = Unit {0}
From (lies k d message) step = Unit {0}

module _ (settings : Settings) (judge : Formats) (world : World) where
  lie_from : (k d : ℕ) (step : Step) (unpacked : Unpacked) → From (lies_with settings judge k d unpacked) step
  lie_from k d step (Ok message) = tt
  lie_from k d step (Err refusal) = tt

  accepted_from : (step : Step) → From (accepted settings judge world step) step
  unfolding accepted
  accepted_from (R d) = refl
  accepted_from (W d entry) = refl
  accepted_from (K k d) = by_list (world.up d k) (λ e. rw e tt) (λ message rest e. rw e tt)
  accepted_from (D d k) = by_list (world.down d k) (λ e. rw e tt) (λ message rest e. rw e refl)
  accepted_from (C d) = tt
  accepted_from (L k d bytes) = lie_from k d _ (judge.unpack bytes)

  came_from : (step : Step) → From (event_of settings judge world step) step
  unfolding event_of
  came_from step =
      by_option (refusal_of settings judge world step) (λ e. rw e (accepted_from step)) (λ x e. rw e tt)

  not_refused : (step : Step)
      → ((refusal : Refusal) → answer_of settings world (event_of settings judge world step) ≡ Err refusal
      → ⊥) → event_of settings judge world step ≡ accepted settings judge world step
  unfolding event_of answer_of
  not_refused step never =
      by_option (refusal_of settings judge world step) (λ e. rw e refl) (λ x e. absurd (never x (rw e refl)))

-- ---- a run

module _ (run : Run) where
  -- the words of the history, of the run
  abbrev pub ReadEndsIn : ℕ → ℕ → ℕ → Pair → Type 0
  ReadEndsIn begin d j pair = ReadEnds run.settings run.judge run.steps begin d j pair

  abbrev pub WriteEndsIn : ℕ → ℕ → ℕ → Type 0
  WriteEndsIn begin d j = WriteEnds run.settings run.judge run.steps begin d j

  abbrev pub SendsIn : ℕ → ℕ → ℕ → Pair → Type 0
  SendsIn begin d j pair = Sends run.settings run.judge run.steps begin d j pair

  source : (i : ℕ) → From (event_in run i) (step_in run i)
  source i = came_from run.settings run.judge (world_in run i) (step_in run i)

  accepted_at : (i : ℕ) (step : Step) → step_in run i ≡ step
      → ((refusal : Refusal) → answer_in run i ≡ Err refusal → ⊥)
      → event_in run i ≡ accepted run.settings run.judge (world_in run i) step
  accepted_at i step q never =
      not_refused run.settings run.judge (world_in run i) (step_in run i) never
      ∙ ap (accepted run.settings run.judge (world_in run i)) q

  -- ---- beginnings

  pub read_begins : {begin d : ℕ} → ReadBegins run.settings run.judge run.steps begin d
      → event_in run begin ≡ begins d Reading
  unfolding accepted
  read_begins {begin} {d} begun =
      let a = begun.answer in accepted_at begin (R d) begun.step (λ x e. clash (cc))

  pub write_begins : {begin d : ℕ} (begun : WriteBegins run.settings run.judge run.steps begin d)
      → event_in run begin ≡ begins d (ReadingForWrite begun.entry)
  unfolding accepted
  write_begins {begin} {d} begun =
      let a = begun.answer in accepted_at begin (W d begun.entry) begun.step (λ x e. clash (cc))

  -- a beginning is answered WENT
  begins_went : (begin d : ℕ) (phase : Phase) → event_in run begin ≡ begins d phase → answer_in run begin ≡ Ok Went
  unfolding answer_of
  begins_went begin d phase is = ap (answer_of run.settings (world_in run begin)) is

  pub read_began : (begin d : ℕ) → begin < length run.steps → event_in run begin ≡ begins d Reading
      → ReadBegins run.settings run.judge run.steps begin d
  read_began begin d lt is =
      record {
        in_list = lt;
        step = subst (λ (e : Event). From e (step_in run begin)) is (source begin);
        answer = begins_went begin d Reading is;
      }

  pub write_began : (begin d : ℕ) (entry : Entry) → begin < length run.steps
      → event_in run begin ≡ begins d (ReadingForWrite entry)
      → WriteBegins run.settings run.judge run.steps begin d
  write_began begin d entry lt is =
      record {
        in_list = lt;
        entry = entry;
        step = subst (λ (e : Event). From e (step_in run begin)) is (source begin);
        answer = begins_went begin d (ReadingForWrite entry) is;
      }

  -- ---- answers

  takes_at_lem : (j d k : ℕ) → step_in run j ≡ D d k → ((refusal : Refusal) → answer_in run j ≡ Err refusal → ⊥)
      → TakesAt run j d
  unfolding accepted answer_of
  takes_at_lem j d k q never =
      let is = accepted_at j (D d k) q never in
      by_list ((world_in run j).down d k)
      (λ e. absurd (never _ (ap (answer_of run.settings (world_in run j)) (rw e at is))))
      (λ message rest e. let q' : event_in run j ≡ takes d k message rest = rw e at is in
      record {
        server = k;
        message = message;
        rest = rest;
        event = q';
        enabled = subst (Enabled run.settings run.judge (world_in run j)) q' (enabled_at run j);
      })

  step_of : (j d : ℕ) (taken : TakesAt run j d) → step_in run j ≡ D d taken.server
  step_of j d taken = subst (λ (e : Event). From e (step_in run j)) taken.event (source j)

  pub reads_in_lem : {j d : ℕ} {pair : Pair} → AnswersRead run.settings run.judge run.steps j d pair
      → ReadsAt run j d pair
  reads_in_lem {j} {d} answers =
      let a = answers.answer in
      record {
        takes = takes_at_lem j d answers.server answers.step (λ x e. clash (cc));
        answer = answers.answer;
      }

  pub reads_out : {j d : ℕ} {pair : Pair} → j < length run.steps → ReadsAt run j d pair
      → AnswersRead run.settings run.judge run.steps j d pair
  reads_out {j} {d} lt reads =
      record {
        in_list = lt;
        server = reads.takes.server;
        step = step_of j d reads.takes;
        answer = reads.answer;
      }

  pub writes_in : {j d : ℕ} → AnswersWrite run.settings run.judge run.steps j d → WritesAt run j d
  writes_in {j} {d} answers =
      record {
        takes = takes_at_lem j d answers.server answers.step
            (λ x e. by_either answers.answer (λ a. let a' = a.1 in clash (cc)) (λ a. clash (cc)));
        answer = answers.answer;
      }

  pub writes_out : {j d : ℕ} → j < length run.steps → WritesAt run j d
      → AnswersWrite run.settings run.judge run.steps j d
  writes_out {j} {d} lt writes =
      record {
        in_list = lt;
        server = writes.takes.server;
        step = step_of j d writes.takes;
        answer = writes.answer;
      }

  -- ---- sends, and ends of writes that sent

  pub sends_in : {begin d j : ℕ} {pair : Pair} → SendsIn begin d j pair → Sending run begin d j pair
  sends_in {begin} {d} {j} {pair} sends =
      record {
        entry = sends.begins.entry;
        begins = write_begins sends.begins;
        after = sends.later;
        puts =
            puts_of run.settings run.judge (world_in run j) (event_in run j) d sends.to
            (WriteInfo pair) sends.puts;
        unended = λ i a c writes. let in_list = sends.in_list in
            sends.unended i a c (writes_out (omega arith) writes);
      }

  pub sends_out : {begin d j : ℕ} {pair : Pair} → j < length run.steps → Sending run begin d j pair
      → SendsIn begin d j pair
  sends_out {begin} {d} {j} {pair} lt sending =
      let taken = (sends_at run j d pair sending.puts).by in
      let least = (bounded run).least in
      record {
        begins = write_began begin d sending.entry (let x = sending.after in omega arith)
            sending.begins;
        later = sending.after;
        in_list = lt;
        server = taken.server;
        step = step_of j d taken;
        to = 1;
        puts = of_puts run.settings run.judge (world_in run j) (event_in run j) d 1 (WriteInfo pair)
            (server_of run.settings 1 (le_refl _) (omega arith)) sending.puts;
        unended = λ i a c writes. sending.unended i a c (writes_in writes);
      }

  -- a write that sent ends at its client's next WROTE or SPENT
  pub ends_in : {begin d j : ℕ} {pair : Pair} → Sending run begin d j pair → {d' i : ℕ}
      → WriteEndsIn begin d' i → Ending run begin d i
  ends_in {begin} {d} sending {d'} {i} ends =
      let begun = sending.begins in
      let begun' = write_begins ends.begins in
      let client : d' ≡ d = cc in
      let inside = ends.ends.in_list in
      record {
        after = ends.later;
        writes = subst (λ (z : ℕ). WritesAt run i z) client (writes_in ends.ends);
        first = λ j lo hi writes. ends.next j lo hi
            (writes_out (omega arith) (subst (λ (z : ℕ). WritesAt run j z) (sym client) writes));
      }
