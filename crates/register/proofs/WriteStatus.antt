-- A write from its beginning on: it is open, and has sent nothing or has sent once; or it has ended.
--
-- While it is open its client has begun nothing since and has answered neither WROTE nor SPENT. Until it
-- sends, the client is reading for the write; it sends when it chooses, with the next counter, and then
-- stores. It ends at the first WROTE or SPENT: spent without having sent, or stored with n − f
-- acknowledgements of its counter.
-- Assumes nothing.
use Rattle.basics.proofs.Prelude.{◌≡◌, refl, ◌∙◌, true, ◌⊎◌, inl, inr, ℕ, suc, ◌<◌, arith, eq-eqb}
use Rattle.basics.proofs.Cases.{by_either, clash}
use Rattle.basics.proofs.Ranges.{one_more, Happened, until}
use Rattle.register.proofs.Vocabulary.{counted, enough, servers, with_ack, begins, Ok}
use Rattle.register.proofs.Vocabulary.{Entry, WriteInfo, WriteAck, Pair, WriteCounter, pair_of, Went}
use Rattle.register.proofs.Vocabulary.{ReadingForWrite, Storing}
use Rattle.register.proofs.Run.{Run, world_in, event_in, answer_in}
use Rattle.register.proofs.Outcomes.{next_counter}
use Rattle.register.proofs.Turns.{rested, opened, showed, spent, sent, ended}
use Rattle.register.proofs.PutCases.{PutsAt}
use Rattle.register.proofs.Since.{since, since_stays, since_starts, TurnAt, turn_at, begun_phase}
use Rattle.register.proofs.ReadStatus.{idle_is, TakesAt, WritesAt, DecidesAt}

module _ (run : Run) where
  pub record Unsent (begin d : ℕ) (entry : Entry) (i : ℕ) : Type 0 where
    pub phase : ((world_in run i).clients d).phase ≡ ReadingForWrite entry
    pub none : (j : ℕ) → begin < j → j < i → (pair : Pair) → PutsAt run j d pair → ⊥

  pub record SentOnce (begin d : ℕ) (entry : Entry) (i : ℕ) : Type 0 where
    pub at : ℕ
    pub after : begin < at
    pub before : at < i
    pub pair : Pair
    pub begun : since run at d ≡ begin
    pub decides : DecidesAt run at d pair
    pub phase : ((world_in run i).clients d).phase ≡ Storing entry (next_counter pair)
    pub puts : PutsAt run at d (pair_of (next_counter pair) d entry)
    pub only : (j : ℕ) → begin < j → j < i → (pair : Pair) → PutsAt run j d pair → j ≡ at

  pub record OpenWrite (begin d : ℕ) (entry : Entry) (i : ℕ) : Type 0 where
    pub begun : since run i d ≡ begin
    pub state : Unsent begin d entry i ⊎ SentOnce begin d entry i
    pub silent : (j : ℕ) → begin < j → j < i → WritesAt run j d → ⊥

  -- client d, storing with the counter, takes the acknowledgement that makes n − f
  pub record Stores (d : ℕ) (entry : Entry) (count : WriteCounter) (n : ℕ) : Type 0 where
    pub takes : TakesAt run n d
    pub message : takes.message ≡ WriteAck count
    pub phase : ((world_in run n).clients d).phase ≡ Storing entry count
    pub many :
        enough (servers run.settings) run.settings.f
        (counted (with_ack ((world_in run n).clients d) takes.server).acks (servers run.settings)) ≡ true

  -- the write ends at step i, its client's next WROTE or SPENT
  pub record Ending (begin d i : ℕ) : Type 0 where
    pub after : begin < i
    pub writes : WritesAt run i d
    pub first : (j : ℕ) → begin < j → j < i → WritesAt run j d → ⊥

  -- it ends so, unsent or stored
  pub record EndsWrite (begin d : ℕ) (entry : Entry) (i : ℕ) : Type 0 where
    pub ends : Ending begin d i
    pub state : Unsent begin d entry i
        ⊎ ((s : SentOnce begin d entry i) × Stores d entry (next_counter s.pair) i)

  -- a step that answers neither WROTE nor SPENT
  pub quiet_step : (n d : ℕ) → (TakesAt run n d → answer_in run n ≡ Ok Went) → WritesAt run n d → ⊥
  quiet_step n d went writes =
      let s = went writes.takes in
      by_either writes.answer (λ x. let x' = x.1 in clash (cc)) (λ x. clash (cc))

  -- a phase of an open write
  pub in_phase_lem : (begin d : ℕ) (entry : Entry) (n : ℕ) {C : Type 0} → OpenWrite begin d entry n
      → (((world_in run n).clients d).phase ≡ ReadingForWrite entry → C)
      → ((count : WriteCounter) → ((world_in run n).clients d).phase ≡ Storing entry count → C) → C
  in_phase_lem begin d entry n status f g =
      by_either status.state (λ state. f state.phase) (λ state. g _ state.phase)

  still_unsent : (begin d : ℕ) (entry : Entry) (n : ℕ)
      → ((world_in run (suc n)).clients d).phase ≡ ((world_in run n).clients d).phase
      → ((pair : Pair) → PutsAt run n d pair → ⊥) → Unsent begin d entry n → Unsent begin d entry (suc n)
  still_unsent begin d entry n same quiet unsent =
      record {
        phase = same ∙ unsent.phase;
        none = one_more (λ (j : ℕ). (pair : Pair) → PutsAt run j d pair → ⊥) begin n quiet unsent.none;
      }

  still_sent : (begin d : ℕ) (entry : Entry) (n : ℕ)
      → ((world_in run (suc n)).clients d).phase ≡ ((world_in run n).clients d).phase
      → ((pair : Pair) → PutsAt run n d pair → ⊥) → SentOnce begin d entry n → SentOnce begin d entry (suc n)
  still_sent begin d entry n same quiet once =
      record {
        at = once.at;
        after = once.after;
        before = let x = once.before in omega arith;
        pair = once.pair;
        begun = once.begun;
        decides = once.decides;
        phase = same ∙ once.phase;
        puts = once.puts;
        only = one_more (λ (j : ℕ). (pair : Pair) → PutsAt run j d pair
            → j ≡ once.at) begin n (λ pair h. absurd (quiet pair h)) once.only;
      }

  write_step_lem : (begin d : ℕ) (entry : Entry) (n : ℕ) → begin < n → OpenWrite begin d entry n → TurnAt run n d
      → OpenWrite begin d entry (suc n) ⊎ EndsWrite begin d entry n
  write_step_lem begin d entry n lt status (rested was st went quiet) =
      inl (record {
        begun = since_stays run n d st ∙ status.begun;
        state =
            by_either status.state
            (λ state. inl (still_unsent begin d entry n was (λ p. quiet (WriteInfo p)) state))
            (λ state. inr (still_sent begin d entry n was (λ p. quiet (WriteInfo p)) state));
        silent = one_more (λ (j : ℕ). WritesAt run j d → ⊥) begin n (quiet_step n d went) status.silent;
      })
  write_step_lem begin d entry n lt status (opened phase q checked _) =
      let h =
      idle_is _ checked.idle in in_phase_lem begin d entry n status (λ h'. clash (cc)) (λ c h'. clash (cc))
  write_step_lem begin d entry n lt status (showed pair decides was _ answers) =
      in_phase_lem begin d entry n status (λ h. clash (cc)) (λ c h. clash (cc))
  write_step_lem begin d entry n lt status (spent pair entry' decides was _ answers) =
      inr (record {
        ends = record {
          after = lt;
          writes = record { takes = decides.by; answer = inr answers };
          first = status.silent;
        };
        state = by_either status.state (λ state. inl state) (λ state. let h = state.phase in clash (cc));
      })
  write_step_lem begin d entry n lt status (sent pair entry' decides was now answers puts) =
      by_either status.state (λ state. let h = state.phase in
      let z : entry' ≡ entry = cc in
      inl (record {
        begun = since_stays run n d (rw decides.by.event refl) ∙ status.begun;
        state = inr (record {
          at = n;
          after = lt;
          before = omega arith;
          pair = pair;
          begun = status.begun;
          decides = decides;
          phase = rw z at now;
          puts = rw z at puts;
          only = one_more (λ (j : ℕ). (pair : Pair) → PutsAt run j d pair → j ≡ n) begin n (λ pair h. refl)
              (λ j a c pair h. absurd (state.none j a c pair h));
        });
        silent = one_more (λ (j : ℕ). WritesAt run j d → ⊥) begin n (quiet_step n d (λ h. answers))
            status.silent;
      }))
      (λ state. let h = state.phase in clash (cc))
  write_step_lem begin d entry n lt status (ended entry' count taken i was many _ answers) =
      inr (record {
        ends = record {
          after = lt;
          writes = record { takes = taken; answer = inl (_, answers) };
          first = status.silent;
        };
        state = by_either status.state (λ state. let h = state.phase in clash (cc))
            (λ state. let h = state.phase in
            let z : count ≡ next_counter state.pair = cc in
            inr (state, record { takes = taken; message = rw z at i; phase = state.phase; many = many }));
      })

  pub write_status : (begin d : ℕ) (entry : Entry) → event_in run begin ≡ begins d (ReadingForWrite entry)
      → (i : ℕ) → begin < i → OpenWrite begin d entry i ⊎ Happened (EndsWrite begin d entry) begin i
  write_status begin d entry h =
      until (OpenWrite begin d entry) (EndsWrite begin d entry) begin
      (record {
        begun = since_starts run begin d (rw h (eq-eqb d d refl));
        state = inl (record {
          phase = begun_phase run begin d (ReadingForWrite entry) h;
          none = λ j a c pair x. absurd (omega arith);
        });
        silent = λ j a c x. absurd (omega arith);
      })
      (λ n lt status. write_step_lem begin d entry n lt status (turn_at run n d))
