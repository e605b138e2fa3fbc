-- The ladders of K, D, C and L, climbed as the code does: what each test says of its rung, and what the step
-- gives where a rung applies, or where none of the first does.
--
-- K and D test alike: who is named is there (4), the server is honest (5) or the client works (6), a message
-- waits (10). The premises are what the code's calls and tests say, so that `search` finds them at any place.
-- A test by `if !` is `rung` of `client`.
-- Assumes nothing.
use Rattle.basics.proofs.Prelude.{◌≡◌, sym, ap, ◌∙◌, Bool, true, false, not, ◌&&◌, List, Option, Some, ℕ}
use Rattle.basics.proofs.Prelude.{◌-◌, ◌≤◌, arith, eqb, eq-eqb, ne_eqb}
use Rattle.std.specs.Prelude.{Err}
use Rattle.register.proofs.Vocabulary.{contains, Refusal, Rung, lowest, Words, unpack_of, goes_down, is_client}
use Rattle.register.proofs.Vocabulary.{is_server}
use Rattle.register.specs.World.{StepAnswer}
use Rattle.refusal.proofs.Ladders.{Climbs, climbs}
use Rattle.channel.specs.Memory.{count_at}
use Rattle.state.specs.declared.Settings.{Settings}
use Rattle.state.specs.State.{settings_of, bytes_in, up_index, down_index, stopped_in}
use Rattle.steps.specs.After.{unless}
use Rattle.steps.specs.InMemory.{Result, result, keeping, Placed, placed, served, serve_oldest}
use Rattle.steps.specs.InMemory.{serve_rungs, serve_step, take_result, take_oldest, take_rungs, take_step}
use Rattle.steps.specs.InMemory.{stop_result, stop_rungs, stop_step, lied, lie_with, lie_rungs, lie_step}

-- ---- a rung

-- one of a set
pub member_rung : (set n : ℕ) (told applies : Bool) → told ≡ contains set n → told ≡ applies
    → contains set n ≡ applies
member_rung set n told applies is found = sym is ∙ found

-- the messages of a channel
module _ (slots : List ℕ) (n place channel : ℕ) (count : n ≡ count_at slots place) (at : place ≡ channel) where
  counted : count_at slots channel ≡ n
  counted = ap (count_at slots) (sym at) ∙ sym count

  pub empty_rung : n ≡ 0 → eqb (count_at slots channel) 0 ≡ true
  empty_rung empty = eq-eqb (count_at slots channel) 0 (counted ∙ empty)

  pub waiting_rung : (n ≡ 0 → ⊥) → eqb (count_at slots channel) 0 ≡ false
  waiting_rung waits = ne_eqb (count_at slots channel) 0 (λ e. waits (sym counted ∙ e))

  pub one_waits : (n ≡ 0 → ⊥) → 1 ≤ count_at slots channel
  one_waits waits = omega (arith, counted, waits)

-- ---- a step

-- what a step keeps where a rung applies
refused : {A : Type 0} (kept : StepAnswer → A) (given : A) (rungs : List Rung) (why : Refusal)
    → Climbs rungs (Some why) → kept (Err why) ≡ unless (lowest rungs) kept given
refused kept given rungs why climbed = ap (λ (o : Option Refusal). unless o kept given) (climbs rungs climbed)

-- K
module _ (settings : Settings) (stopped : ℕ) (servers slots : List ℕ) (k d : ℕ) where
  pub serve_refused : (why : Refusal) → Climbs (serve_rungs settings stopped servers slots k d) (Some why)
      → result (Err why) servers slots ≡ serve_step settings stopped servers slots k d
  unfolding serve_step
  serve_refused =
      refused (keeping servers slots) (served settings stopped servers slots k d)
      (serve_rungs settings stopped servers slots k d)

  pub serve_on : (given : Result) → given ≡ serve_oldest settings stopped servers slots k d
      → not (is_client (settings_of settings) d && is_server (settings_of settings) k) ≡ false
      → contains settings.faulty k ≡ false → eqb (count_at slots (up_index (d - 1) (k - 1))) 0 ≡ false
      → given ≡ serve_step settings stopped servers slots k d
  unfolding serve_step
  serve_on given is there honest waits = rw (there, honest, waits) is

-- D
module _ (settings : Settings) (clients slots : List ℕ) (d k : ℕ) where
  pub take_refused : (why : Refusal) → Climbs (take_rungs settings clients slots d k) (Some why)
      → result (Err why) clients slots ≡ take_step settings clients slots d k
  unfolding take_step
  take_refused =
      refused (keeping clients slots) (take_result settings clients slots d k)
      (take_rungs settings clients slots d k)

  pub take_on : (given : Result) → given ≡ take_oldest settings clients slots d k
      → not (is_client (settings_of settings) d && is_server (settings_of settings) k) ≡ false
      → contains (stopped_in clients) d ≡ false → eqb (count_at slots (down_index (d - 1) (k - 1))) 0 ≡ false
      → given ≡ take_step settings clients slots d k
  unfolding take_step
  take_on given is there working waits = rw (there, working, waits) is

-- C
module _ (settings : Settings) (clients slots : List ℕ) (d : ℕ) where
  pub stop_refused : (why : Refusal) → Climbs (stop_rungs settings clients slots d) (Some why)
      → result (Err why) clients slots ≡ stop_step settings clients slots d
  unfolding stop_step
  stop_refused =
      refused (keeping clients slots) (stop_result settings clients slots d)
      (stop_rungs settings clients slots d)

  pub stop_done : (given : Result) → given ≡ stop_result settings clients slots d
      → not (is_client (settings_of settings) d) ≡ false → contains (stopped_in clients) d ≡ false
      → given ≡ stop_step settings clients slots d
  unfolding stop_step
  stop_done given is there working = rw (there, working) is

-- L
module _ (settings : Settings) (stopped : ℕ) (slots : List ℕ) (k d : ℕ) (words : Words) where
  pub lie_refused : (why : Refusal) → Climbs (lie_rungs settings stopped slots k d words) (Some why)
      → placed (Err why) slots ≡ lie_step settings stopped slots k d words
  unfolding lie_step
  lie_refused =
      refused (λ answer. placed answer slots) (lied stopped slots k d words)
      (lie_rungs settings stopped slots k d words)

  pub lie_on : (given : Placed) → given ≡ lie_with stopped slots k d words
      → not (is_client (settings_of settings) d && is_server (settings_of settings) k) ≡ false
      → not (contains settings.faulty k) ≡ false → not (goes_down (unpack_of (bytes_in words))) ≡ false
      → given ≡ lie_step settings stopped slots k d words
  unfolding lie_step
  lie_on given is there faulty reply = rw (there, faulty, reply) is
