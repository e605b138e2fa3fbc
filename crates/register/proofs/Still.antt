-- Still: a client that reads has not decided, and one that stores has too few acknowledgements.
--
-- Why: after every message that it uses the client leaves its phase if it finds a pair or has enough
-- acknowledgements; so if it is still in the phase, it has not. At a start it has nothing, and n − f is
-- above 0.
-- Assumes nothing.
use Rattle.basics.proofs.Prelude.{◌≡◌, refl, sym, ◌∙◌, true, false, inr, None, ℕ, zero, suc, arith, leb-true}
use Rattle.basics.proofs.Cases.{by_test}
use Rattle.register.proofs.Vocabulary.{counted, enough, Settings, servers, Client, cleared, is_reading}
use Rattle.register.proofs.Vocabulary.{is_noted, started, with_ack, Response, chosen, World, Event}
use Rattle.register.proofs.Vocabulary.{Formats, world_at}
use Rattle.register.proofs.Vocabulary.{Entry, Message, ReadNumber, WriteCounter, Phase, Idle, Storing}
use Rattle.register.proofs.Bounds.{Bounds}
use Rattle.register.proofs.Counted.{counted_none}
use Rattle.register.proofs.Run.{Run, world_in, event_in, enabled_at, bounded}
use Rattle.register.proofs.Outcomes.{choice, Grown, grown_phase, Outcome, dropped, waits, shows}
use Rattle.register.proofs.Outcomes.{spends, sends, acks, ends}
use Rattle.register.proofs.Frames.{ClientNext, same, starts, responds, client_next}
use Rattle.register.proofs.Live.{not_reading}

pub record Still (settings : Settings) (d : ℕ) (self : Client) : Type 0 where
  pub undecided : is_reading self.phase ≡ true → choice settings d self ≡ None
  pub few : (entry : Entry) (count : WriteCounter) → self.phase ≡ Storing entry count
      → enough (servers settings) settings.f (counted self.acks (servers settings)) ≡ false

-- no server is not enough
none_enough : (settings : Settings) → Bounds settings → (spoken : ℕ) → spoken ≡ 0
    → enough (servers settings) settings.f spoken ≡ false
none_enough settings bounded spoken z =
    let least = bounded.least in
    by_test (enough (servers settings) settings.f spoken) (λ e. absurd (omega (arith, leb-true))) (λ e. e)

-- a client with nothing of any server
still_cleared : (settings : Settings) → Bounds settings → (d : ℕ) (phase : Phase) (tag : ReadNumber)
    → Still settings d (cleared phase tag)
unfolding chosen is_noted
still_cleared settings bounded d phase tag =
    let none_noted = counted_none (λ k. is_noted None) (servers settings) (λ k. refl) in
    let none_acks = counted_none (λ k. false) (servers settings) (λ k. refl) in
    record {
      undecided = λ reading. rw (none_enough settings bounded
          (counted (λ k. false) (servers settings)) none_noted) refl;
      few = λ entry count q. none_enough settings bounded (counted (λ k. false) (servers settings)) none_acks;
    }

module _ (settings : Settings) (bounded : Bounds settings) (d : ℕ) (self : Client) (k : ℕ)
    (message : Message) (still : Still settings d self) where
  still_grown : (after : Client) → Grown self k message after → is_reading self.phase ≡ true
      → choice settings d after ≡ None → Still settings d after
  still_grown after grows reading undecided =
      record {
        undecided = λ _. undecided;
        few = λ entry count q. absurd
            (not_reading _ reading (inr (entry, count, sym (grown_phase grows) ∙ q)));
      }

  outcome_still : (response : Response) → Outcome settings d self k message response
      → Still settings d response.client
  unfolding with_ack
  outcome_still response (dropped _) = still
  outcome_still response (waits grown grows r c) = still_grown grown grows r c
  outcome_still response (shows grown pair grows _ _) = still_cleared settings bounded d Idle grown.reads
  outcome_still response (spends grown pair entry grows _ _ _) =
      still_cleared settings bounded d Idle grown.reads
  outcome_still response (sends grown pair entry grows _ _ _) =
      still_cleared settings bounded d _ grown.reads
  outcome_still response (acks entry count _ was few) =
      record {
        undecided = λ reading. absurd (not_reading _ reading (inr (entry, count, was)));
        few = λ entry count q. few;
      }
  outcome_still response (ends entry count _ _ _) = still_cleared settings bounded d Idle self.reads

still_next : (settings : Settings) → Bounds settings → (judge : Formats) (world : World) (event : Event)
    (d : ℕ) → Still settings d (world.clients d) → (after : Client)
    → ClientNext settings judge world event d after → Still settings d after
unfolding started
still_next settings bounded judge world event d still after (same _ _) = still
still_next settings bounded judge world event d still after (starts phase _ _) =
    still_cleared settings bounded d phase _
still_next settings bounded judge world event d still after (responds taken response _ out) =
    outcome_still settings bounded d (world.clients d) _ _ still response out

pub still : (run : Run) (n d : ℕ) → Still run.settings d ((world_in run n).clients d)
unfolding world_at
still run zero d = still_cleared run.settings (bounded run) d Idle (record { 0 = 0 })
still run (suc n) d =
    still_next run.settings (bounded run) run.judge (world_in run n) (event_in run n) d (still run n d) _
    (client_next run.settings run.judge (world_in run n) (event_in run n) (enabled_at run n) d)
