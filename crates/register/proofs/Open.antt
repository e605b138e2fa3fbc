-- A client that is not idle has an operation open, and a client answers only what it has open.
--
-- Why: it leaves Idle only by a start, and from then on its phase tells what it began (`origin`); it is Idle
-- again as soon as it answers READ, WROTE or SPENT. So from the start on it has answered none of them
-- (`is_open`).
-- Assumes nothing.
use Rattle.basics.proofs.Prelude.{◌≡◌, refl, sym, ap, ◌∙◌, subst, true, false, ◌⊎◌, inl, inr, ℕ, zero, suc}
use Rattle.basics.proofs.Prelude.{◌<◌, arith}
use Rattle.basics.proofs.Cases.{by_either, true_or_false, clash}
use Rattle.basics.proofs.Ranges.{one_more}
use Rattle.register.proofs.Vocabulary.{is_idle, begins, world_at, Formats, Ok, Err, StepAnswer}
use Rattle.register.proofs.Vocabulary.{Entry, Pair, WriteCounter, pair_of, Went, Read, Wrote}
use Rattle.register.proofs.Vocabulary.{Spent, Phase, Idle, Reading, ReadingForWrite, Storing}
use Rattle.register.proofs.Run.{Run, world_in, event_in, answer_in}
use Rattle.register.proofs.Turns.{rested, opened, showed, spent, sent, ended}
use Rattle.register.proofs.Since.{TurnAt, turn_at}
use Rattle.register.proofs.ReadStatus.{TakesAt, ReadsAt, WritesAt}
use Rattle.register.proofs.WriteStatus.{quiet_step}
use Rattle.register.proofs.Enabled.{Starts}

-- the phase in which the operation of a phase began
abbrev pub origin : Phase → Phase
origin Idle = Idle
origin Reading = Reading
origin (ReadingForWrite entry) = ReadingForWrite entry
origin (Storing entry count) = ReadingForWrite entry

start_origin : (judge : Formats) (phase : Phase) → Starts judge phase → origin phase ≡ phase
start_origin judge Idle h = refl
start_origin judge Reading h = refl
start_origin judge (ReadingForWrite entry) h = refl
start_origin judge (Storing entry count) h = absurd h

module _ (run : Run) where
  -- step i answers READ, WROTE or SPENT to client d
  abbrev pub EndsAt : ℕ → ℕ → Type 0
  EndsAt i d = ((pair : Pair) × ReadsAt run i d pair) ⊎ WritesAt run i d

  -- client d began in the phase before step n, and has ended nothing since
  pub record Open (n d : ℕ) (phase : Phase) : Type 0 where
    pub at : ℕ
    pub before : at < n
    pub begins : event_in run at ≡ begins d phase
    pub silent : (i : ℕ) → at < i → i < n → EndsAt i d → ⊥

  -- a step that answers WENT where client d takes a message ends nothing of d
  ends_nothing : (n d : ℕ) → (TakesAt run n d → answer_in run n ≡ Ok Went) → EndsAt n d → ⊥
  ends_nothing n d went (inl h) = let s = went h.1.takes in let s' = h.1.answer in clash (cc)
  ends_nothing n d went (inr h) = quiet_step run n d went h

  still_open : (n d : ℕ) (phase : Phase) → (EndsAt n d → ⊥) → Open n d phase → Open (suc n) d phase
  still_open n d phase quiet status =
      record {
        at = status.at;
        before = let x = status.before in omega arith;
        begins = status.begins;
        silent = one_more (λ (j : ℕ). EndsAt j d → ⊥) status.at n quiet status.silent;
      }

  open_next : (n d : ℕ) (phase : Phase) → (is_idle ((world_in run n).clients d).phase ≡ false
      → Open n d (origin ((world_in run n).clients d).phase)) → ((world_in run (suc n)).clients d).phase ≡ phase
      → is_idle phase ≡ false → TurnAt run n d → Open (suc n) d (origin phase)
  unfolding is_idle
  open_next n d phase ih now busy (rested same _ went _) =
      let q : ((world_in run n).clients d).phase ≡ phase = sym same ∙ now in
      still_open n d (origin phase) (ends_nothing n d went)
      (subst (λ (x : Phase). Open n d (origin x)) q (ih (ap is_idle q ∙ busy)))
  open_next n d phase ih now busy (opened phase' q checked is) =
      let same : phase' ≡ phase = sym is ∙ now in
      record {
        at = n;
        before = omega arith;
        begins = q ∙ ap (begins d) (sym (start_origin run.judge phase' checked.phase) ∙ ap origin same);
        silent = λ i a b h. absurd (omega arith);
      }
  open_next n d phase ih now busy (showed pair _ _ is _) =
      absurd (true_or_false true refl (ap is_idle (sym is ∙ now) ∙ busy))
  open_next n d phase ih now busy (spent pair entry _ _ is _) =
      absurd (true_or_false true refl (ap is_idle (sym is ∙ now) ∙ busy))
  open_next n d phase ih now busy (sent pair entry _ was is went _) =
      still_open n d (origin phase) (ends_nothing n d (λ t. went))
      (subst (λ (x : Phase). Open n d x) (ap origin was ∙ ap origin (sym is ∙ now)) (ih (ap is_idle was)))
  open_next n d phase ih now busy (ended entry count _ _ _ _ is _) =
      absurd (true_or_false true refl (ap is_idle (sym is ∙ now) ∙ busy))

  pub is_open : (n d : ℕ) → is_idle ((world_in run n).clients d).phase ≡ false
      → Open n d (origin ((world_in run n).clients d).phase)
  unfolding world_at is_idle
  is_open zero d h = absurd (true_or_false true refl h)
  is_open (suc n) d h =
      open_next n d ((world_in run (suc n)).clients d).phase (is_open n d) refl h (turn_at run n d)

  -- a client that is reading, reading for a write, or storing
  pub open_read : (n d : ℕ) → ((world_in run n).clients d).phase ≡ Reading → Open n d Reading
  unfolding is_idle
  open_read n d h = subst (λ (x : Phase). Open n d (origin x)) h (is_open n d (ap is_idle h))

  pub open_write : (n d : ℕ) (entry : Entry) → ((world_in run n).clients d).phase ≡ ReadingForWrite entry
      → Open n d (ReadingForWrite entry)
  unfolding is_idle
  open_write n d entry h = subst (λ (x : Phase). Open n d (origin x)) h (is_open n d (ap is_idle h))

  pub open_storing : (n d : ℕ) (entry : Entry) (count : WriteCounter)
      → ((world_in run n).clients d).phase ≡ Storing entry count → Open n d (ReadingForWrite entry)
  unfolding is_idle
  open_storing n d entry count h = subst (λ (x : Phase). Open n d (origin x)) h (is_open n d (ap is_idle h))

  -- ---- what a client answers it has open

  -- the phase in which client d gives an answer at step j; SPENT leaves it idle, and WROTE shows what it
  -- stores
  abbrev pub Answering : ℕ → ℕ → StepAnswer → Type 0
  Answering j d (Ok Went) = Unit {0}
  Answering j d (Ok (Read pair)) = ((world_in run j).clients d).phase ≡ Reading
  Answering j d (Ok (Wrote pair)) =
      (e : Entry) × (c : WriteCounter) × (((world_in run j).clients d).phase ≡ Storing e c) ×
      (pair ≡ pair_of c d e)
  Answering j d (Ok Spent) =
      (e : Entry) × (((world_in run j).clients d).phase ≡ ReadingForWrite e)
      × (((world_in run (suc j)).clients d).phase ≡ Idle)
  Answering j d (Err refusal) = Unit {0}

  pub answering : (j d : ℕ) (a : StepAnswer) → TakesAt run j d → answer_in run j ≡ a → Answering j d a
  answering j d a taken is = subst (Answering j d) is (go (turn_at run j d))
    where
      go : TurnAt run j d → Answering j d (answer_in run j)
      go (rested _ _ went _) = rw (went taken) tt
      go (opened phase q _ _) = let e = taken.event in clash (cc)
      go (showed pair _ was _ an) = rw an was
      go (spent pair entry _ was now an) = rw an (entry, was, now)
      go (sent pair entry _ was _ an _) = rw an tt
      go (ended entry count _ _ was _ _ an) = rw an (entry, count, was, refl)

  pub shows_open : (j d : ℕ) (pair : Pair) → ReadsAt run j d pair → ((world_in run j).clients d).phase ≡ Reading
  shows_open j d pair reads = answering j d (Ok (Read pair)) reads.takes reads.answer

  pub ends_open : (j d : ℕ) → WritesAt run j d → (entry : Entry) × Open j d (ReadingForWrite entry)
  ends_open j d writes =
      by_either writes.answer (λ a. let q = answering j d (Ok (Wrote a.0)) writes.takes a.1 in
      (q.0, open_storing j d q.0 q.1 q.2))
      (λ a. let q = answering j d (Ok Spent) writes.takes a in (q.0, open_write j d q.0 q.1))
