-- A read from its beginning on: it is open, or it has ended.
--
-- While it is open its client is reading, has begun nothing since, and has answered no READ since. It ends at
-- the first step at which the client shows its choice; so the READ that ends a read is its client's next, and
-- shows what was chosen then.
-- Assumes nothing.
use Rattle.basics.proofs.Prelude.{◌≡◌, refl, ◌∙◌, subst, true, false, ◌⊎◌, inl, inr, ℕ, suc, ◌<◌, arith}
use Rattle.basics.proofs.Prelude.{eq-eqb}
use Rattle.basics.proofs.Cases.{true_or_false, clash}
use Rattle.basics.proofs.Ranges.{one_more, Happened, until}
use Rattle.register.proofs.Vocabulary.{is_idle, begins, Ok}
use Rattle.register.proofs.Vocabulary.{Pair, Read, Wrote, Spent, Phase, Idle, Reading, ReadingForWrite}
use Rattle.register.proofs.Vocabulary.{Storing}
use Rattle.register.proofs.Enabled.{Enabled}
use Rattle.register.proofs.Run.{Run, world_in, event_in, answer_in, enabled_at}
use Rattle.register.proofs.Frames.{Takes}
use Rattle.register.proofs.Turns.{Decides, rested, opened, showed, spent, sent, ended}
use Rattle.register.proofs.Since.{since, since_stays, since_starts, TurnAt, turn_at, begun_phase}

pub idle_is : (phase : Phase) → is_idle phase ≡ true → phase ≡ Idle
unfolding is_idle
idle_is Idle h = refl
idle_is Reading h = absurd (true_or_false false h refl)
idle_is (ReadingForWrite entry) h = absurd (true_or_false false h refl)
idle_is (Storing entry count) h = absurd (true_or_false false h refl)

-- a client that begins is idle
pub begins_idle : (run : Run) (n d : ℕ) (phase : Phase) → event_in run n ≡ begins d phase
    → ((world_in run n).clients d).phase ≡ Idle
begins_idle run n d phase q =
    let checked : Enabled run.settings run.judge (world_in run n) (begins d phase) =
    subst (Enabled run.settings run.judge (world_in run n)) q (enabled_at run n) in
    idle_is _ checked.idle

module _ (run : Run) where
  -- client d takes a message at step j; and the step answers READ with the pair; WROTE or SPENT
  abbrev pub TakesAt : ℕ → ℕ → Type 0
  TakesAt j d = Takes run.settings run.judge (world_in run j) (event_in run j) d

  pub record ReadsAt (j d : ℕ) (pair : Pair) : Type 0 where
    pub takes : TakesAt j d
    pub answer : answer_in run j ≡ Ok (Read pair)

  pub record WritesAt (j d : ℕ) : Type 0 where
    pub takes : TakesAt j d
    pub answer : ((pair : Pair) × (answer_in run j ≡ Ok (Wrote pair))) ⊎ (answer_in run j ≡ Ok Spent)

  -- client d decides for the pair at step j
  abbrev pub DecidesAt : ℕ → ℕ → Pair → Type 0
  DecidesAt j d pair = Decides run.settings run.judge (world_in run j) (event_in run j) d pair

  pub record OpenRead (begin d i : ℕ) : Type 0 where
    pub phase : ((world_in run i).clients d).phase ≡ Reading
    pub begun : since run i d ≡ begin
    pub silent : (j : ℕ) → begin < j → j < i → (pair : Pair) → ReadsAt j d pair → ⊥

  -- the read ends at step i
  pub record EndsRead (begin d i : ℕ) : Type 0 where
    pub pair : Pair
    pub begun : since run i d ≡ begin
    pub decides : DecidesAt i d pair
    pub reads : ReadsAt i d pair
    pub first : (j : ℕ) → begin < j → j < i → (pair : Pair) → ReadsAt j d pair → ⊥

  read_step : (begin d n : ℕ) → OpenRead begin d n → TurnAt run n d
      → OpenRead begin d (suc n) ⊎ EndsRead begin d n
  read_step begin d n status (rested was st went _) =
      inl (record {
        phase = was ∙ status.phase;
        begun = since_stays run n d st ∙ status.begun;
        silent = one_more (λ j. (pair : Pair) → ReadsAt j d pair → ⊥) begin n
            (λ pair h. let s = went h.takes in let s' = h.answer in clash (cc)) status.silent;
      })
  read_step begin d n status (opened phase q checked _) =
      let h = idle_is _ checked.idle in let h' = status.phase in clash (cc)
  read_step begin d n status (showed pair decides was _ answers) =
      inr (record {
        pair = pair;
        begun = status.begun;
        decides = decides;
        reads = record { takes = decides.by; answer = answers };
        first = status.silent;
      })
  read_step begin d n status (spent pair entry decides was _ _) = let h = status.phase in clash (cc)
  read_step begin d n status (sent pair entry decides was _ _ _) = let h = status.phase in clash (cc)
  read_step begin d n status (ended entry count taken i was _ _ _) = let h = status.phase in clash (cc)

  pub read_status : (begin d : ℕ) → event_in run begin ≡ begins d Reading → (i : ℕ) → begin < i
      → OpenRead begin d i ⊎ Happened (EndsRead begin d) begin i
  read_status begin d h =
      until (OpenRead begin d) (EndsRead begin d) begin
      (record {
        phase = begun_phase run begin d Reading h;
        begun = since_starts run begin d (rw h (eq-eqb d d refl));
        silent = λ j a c pair x. absurd (omega arith);
      })
      (λ n lt status. read_step begin d n status (turn_at run n d))
