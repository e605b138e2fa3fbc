-- Whether a read has ended can be told from its number, and if so at which step it ended and what it shows.
--
-- Why: the event of that step tells whether a read began there, and of which client; from then on the read is
-- open or has ended (`ReadStatus`), and an open one is no finished read.
-- Assumes nothing.
use Rattle.basics.proofs.Prelude.{◌≡◌, refl, ◌⊎◌, inl, inr, length, ℕ, ◌<◌, arith, ltb, ltb-true, ltb-false}
use Rattle.basics.proofs.Cases.{by_test, by_either, clash}
use Rattle.basics.proofs.Ranges.{Happened}
use Rattle.register.proofs.Vocabulary.{Event, refuses, begins, serves, takes, stops, lies, ReadBegins}
use Rattle.register.proofs.Vocabulary.{Pair, Idle, Reading, ReadingForWrite, Storing}
use Rattle.register.proofs.Run.{Run, event_in}
use Rattle.register.proofs.ReadStatus.{EndsRead, read_status}
use Rattle.register.proofs.Translation.{ReadEndsIn, read_begins, read_began, reads_in_lem, reads_out}

module _ (run : Run) where
  -- the read has ended
  pub record Finished (begin : ℕ) : Type 0 where
    pub client : ℕ
    pub at : ℕ
    pub pair : Pair
    pub ends : ReadEndsIn run begin client at pair

  -- the read has not ended, or there is none
  abbrev pub Unfinished : ℕ → Type 0
  Unfinished begin = (d j : ℕ) (pair : Pair) → ReadEndsIn run begin d j pair → ⊥

  -- the read of client d that began at `begin` ends where its status says
  pub read_ends : (begin d : ℕ) → ReadBegins run.settings run.judge run.steps begin d
      → (happened : Happened (EndsRead run begin d) begin (length run.steps))
      → ReadEndsIn run begin d happened.at happened.how.pair
  read_ends begin d begun happened =
      record {
        begins = begun;
        later = happened.after;
        ends = reads_out run happened.before happened.how.reads;
        next = λ i lo hi pair reads. happened.how.first i lo hi pair (reads_in_lem run reads);
      }

  -- no read began at `begin`
  no_read : (begin : ℕ) → ((d : ℕ) → event_in run begin ≡ begins d Reading → ⊥)
      → Finished begin ⊎ Unfinished begin
  no_read begin h = inr (λ d j pair ends. h d (read_begins run ends.begins))

  began : (begin d' : ℕ) → begin < length run.steps → event_in run begin ≡ begins d' Reading
      → Finished begin ⊎ Unfinished begin
  began begin d' lt e =
      by_either (read_status run begin d' e (length run.steps) lt)
      (λ status. inr (λ d j pair ends. let e' = read_begins run ends.begins in
      let same : d ≡ d' = cc in
      status.silent j ends.later ends.ends.in_list pair (reads_in_lem run (rw same at ends.ends))))
      (λ status. inl (record {
        client = d';
        at = status.at;
        pair = status.how.pair;
        ends = read_ends begin d' (read_began run begin d' lt e) status;
      }))

  by_event : (begin : ℕ) → begin < length run.steps → (event : Event) → event_in run begin ≡ event
      → Finished begin ⊎ Unfinished begin
  by_event begin lt (refuses refusal) q = no_read begin (λ d h. clash (cc))
  by_event begin lt (begins d' Idle) q = no_read begin (λ d h. clash (cc))
  by_event begin lt (begins d' Reading) q = began begin d' lt q
  by_event begin lt (begins d' (ReadingForWrite entry)) q = no_read begin (λ d h. clash (cc))
  by_event begin lt (begins d' (Storing entry other)) q = no_read begin (λ d h. clash (cc))
  by_event begin lt (serves k d' message rest) q = no_read begin (λ d h. clash (cc))
  by_event begin lt (takes d' k message rest) q = no_read begin (λ d h. clash (cc))
  by_event begin lt (stops d') q = no_read begin (λ d h. clash (cc))
  by_event begin lt (lies k d' message) q = no_read begin (λ d h. clash (cc))

  pub finished : (begin : ℕ) → Finished begin ⊎ Unfinished begin
  finished begin =
      by_test (ltb begin (length run.steps))
      (λ t. by_event begin (ltb-true begin _ t) (event_in run begin) refl)
      (λ t. let out = ltb-false begin (length run.steps) t in
      inr (λ d j pair ends. let inside = ends.begins.in_list in omega arith))
