-- What holds on the way to demand 3, in the words of the history, as later work needs it.
--
-- In order: no two writes send one timestamp, and none the initial pair; a write that ended before another
-- began has the lower timestamp (001, lemma 5.4); a write that ended before a read began has none higher than
-- the read shows (lemma 5.3); every pair shown is initial, or the pair of exactly one write that began before
-- the read ended; server timestamps never fall; READ, WROTE and SPENT each end exactly one operation of their
-- client. That an operation ends once is in `OneEnd`.
-- Assumes nothing.
use Rattle.basics.proofs.Prelude.{◌≡◌, ◌⊎◌, inl, inr, ◌≢◌, List, ℕ, ◌≤◌, ◌<◌, arith}
use Rattle.basics.proofs.Cases.{by_either}
use Rattle.register.proofs.Vocabulary.{Settings, Accepted, Step, Formats, world_at, AnswersRead}
use Rattle.register.proofs.Vocabulary.{AnswersWrite, ReadEnds, WriteEnds, Sends, PairOf}
use Rattle.register.proofs.Vocabulary.{Pair, stamp, initial}
use Rattle.register.proofs.Lawful.{Lawful}
use Rattle.register.proofs.Run.{Run}
use Rattle.register.proofs.Grows.{grows_on}
use Rattle.register.proofs.NotOld.{stored_stays, not_old_lem, chosen_known}
use Rattle.register.proofs.Ordered.{not_initial, stored_when_ended, ordered}
use Rattle.register.proofs.Unique.{unique, sends_once}
use Rattle.register.proofs.Translation.{sends_in, ends_in}
use Rattle.register.proofs.Regular.{showing, pair_of}
use Rattle.register.proofs.WellAnswered.{read_answered, write_answered}

module _ (settings : Settings) (judge : Formats) (accepted : Accepted settings) (lawful : Lawful judge)
    (steps : List Step) where
  abbrev run : Run
  run = record { settings = settings; judge = judge; steps = steps; accepted = accepted; lawful = lawful }

  pub distinct_stamps : (begin₁ d₁ j₁ begin₂ d₂ j₂ : ℕ) (pair₁ pair₂ : Pair)
      → Sends settings judge steps begin₁ d₁ j₁ pair₁ → Sends settings judge steps begin₂ d₂ j₂ pair₂
      → stamp pair₁ ≡ stamp pair₂ → begin₁ ≡ begin₂
  distinct_stamps begin₁ d₁ j₁ begin₂ d₂ j₂ pair₁ pair₂ sends₁ sends₂ e =
      unique (sends_in run sends₁) (sends_in run sends₂) e

  -- no write sends the initial pair
  pub sends_other : (begin d j : ℕ) (pair : Pair) → Sends settings judge steps begin d j pair → pair ≢ initial
  sends_other begin d j pair sends = not_initial (sends_in run sends)

  -- a write sends one pair, at one step
  pub one_pair : (begin d₁ j₁ d₂ j₂ : ℕ) (pair₁ pair₂ : Pair) → Sends settings judge steps begin d₁ j₁ pair₁
      → Sends settings judge steps begin d₂ j₂ pair₂ → (d₁ ≡ d₂) × (j₁ ≡ j₂) × (pair₁ ≡ pair₂)
  one_pair begin d₁ j₁ d₂ j₂ pair₁ pair₂ sends₁ sends₂ =
      let q = sends_once (sends_in run sends₁) (sends_in run sends₂) in (q.client, q.step, q.pair)

  pub writes_ordered : (begin₁ d₁ j₁ d' i begin₂ d₂ j₂ : ℕ) (pair₁ pair₂ : Pair)
      → Sends settings judge steps begin₁ d₁ j₁ pair₁ → WriteEnds settings judge steps begin₁ d' i
      → Sends settings judge steps begin₂ d₂ j₂ pair₂ → i < begin₂ → stamp pair₁ < stamp pair₂
  writes_ordered begin₁ d₁ j₁ d' i begin₂ d₂ j₂ pair₁ pair₂ sends₁ ends sends₂ lt =
      let sending = sends_in run sends₁ in ordered sending (ends_in run sending ends) (sends_in run sends₂) lt

  pub reads_not_old : (begin₁ d₁ j₁ d' i begin₂ d₂ j₂ : ℕ) (pair₁ pair₂ : Pair)
      → Sends settings judge steps begin₁ d₁ j₁ pair₁ → WriteEnds settings judge steps begin₁ d' i
      → ReadEnds settings judge steps begin₂ d₂ j₂ pair₂ → i < begin₂ → stamp pair₁ ≤ stamp pair₂
  reads_not_old begin₁ d₁ j₁ d' i begin₂ d₂ j₂ pair₁ pair₂ sends₁ ends ends' lt =
      let sending = sends_in run sends₁ in
      let stored = stored_when_ended sending (ends_in run sending ends) in
      let shown = showing run begin₂ d₂ j₂ pair₂ ends' in
      not_old_lem run j₂ d₂ pair₂ (stamp pair₁) shown.decides
      (rw shown.begun (stored_stays run i begin₂ (stamp pair₁) (omega arith) stored))

  -- what a read shows
  pub shown_genuine : (begin d j : ℕ) (pair : Pair) → ReadEnds settings judge steps begin d j pair
      → (pair ≡ initial) ⊎ ((write : ℕ) × PairOf settings judge steps pair write × (write < j))
  shown_genuine begin d j pair ends =
      by_either (chosen_known run j d pair (showing run begin d j pair ends).decides) (λ e. inl e)
      (λ k. inr (pair_of run j pair ends.ends.in_list k))

  pub stamps_never_fall : (i j : ℕ) → i ≤ j → (k : ℕ)
      → stamp ((world_at settings judge steps i).servers k).pair ≤ stamp
      ((world_at settings judge steps j).servers k).pair
  stamps_never_fall i j le k = grows_on run i j le k

  -- the one read that a READ ends, the one write that a WROTE or SPENT ends
  pub reads_answered : (j d : ℕ) (pair : Pair) → AnswersRead settings judge steps j d pair
      → (begin : ℕ) × ReadEnds settings judge steps begin d j pair
      × ((begin' : ℕ) → ReadEnds settings judge steps begin' d j pair → begin' ≡ begin)
  reads_answered j d pair answers = read_answered run j d pair answers

  pub writes_answered : (j d : ℕ) → AnswersWrite settings judge steps j d
      → (begin : ℕ) × WriteEnds settings judge steps begin d j
      × ((begin' : ℕ) → WriteEnds settings judge steps begin' d j → begin' ≡ begin)
  writes_answered j d answers = write_answered run j d answers
