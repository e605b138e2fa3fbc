-- What each kind of step leaves is the step of the memory. The premises are what the code knows at the step's
-- arm, so that `search` finds them.
-- Assumes nothing.
use Rattle.basics.proofs.Prelude.{◌≡◌, ap, sym, ◌∙◌, List, ℕ}
use Rattle.register.proofs.Vocabulary.{Entry, Words}
use Rattle.register.specs.declared.Step.{Step}
use Rattle.register.specs.declared.Step.TheVariants.{R, W, K, D, C, L}
use Rattle.register.specs.World.{StepAnswer}
use Rattle.state.specs.declared.Settings.{Settings}
use Rattle.state.specs.State.{stopped_in}
use Rattle.steps.specs.After.{After, after}
use Rattle.steps.specs.InMemory.{result, on_servers, on_clients, placed, on_slots, read_step, write_step}
use Rattle.steps.specs.InMemory.{serve_step, take_step, stop_step, lie_step, in_memory}

module _ (settings : Settings) (servers clients slots : List ℕ) (asked : Step) (answer : StepAnswer)
    (own slots' : List ℕ) where
  known : (kind : Step) (left : After) → asked ≡ kind → left ≡ in_memory settings servers clients slots kind
      → left ≡ in_memory settings servers clients slots asked
  known kind left is gives = gives ∙ ap (in_memory settings servers clients slots) (sym is)

  pub reads : (d : ℕ) → asked ≡ R d → result answer own slots' ≡ read_step settings clients slots d
      → after answer servers own slots' ≡ in_memory settings servers clients slots asked
  unfolding in_memory
  reads d is gives = known (R d) _ is (ap (on_clients servers) gives)

  pub writes : (d : ℕ) (entry : Entry) → asked ≡ W d entry
      → result answer own slots' ≡ write_step settings clients slots d entry
      → after answer servers own slots' ≡ in_memory settings servers clients slots asked
  unfolding in_memory
  writes d entry is gives = known (W d entry) _ is (ap (on_clients servers) gives)

  pub serves : (k d : ℕ) → asked ≡ K k d
      → result answer own slots' ≡ serve_step settings (stopped_in clients) servers slots k d
      → after answer own clients slots' ≡ in_memory settings servers clients slots asked
  unfolding in_memory
  serves k d is gives = known (K k d) _ is (ap (on_servers clients) gives)

  pub takes : (d k : ℕ) → asked ≡ D d k → result answer own slots' ≡ take_step settings clients slots d k
      → after answer servers own slots' ≡ in_memory settings servers clients slots asked
  unfolding in_memory
  takes d k is gives = known (D d k) _ is (ap (on_clients servers) gives)

  pub stops : (d : ℕ) → asked ≡ C d → result answer own slots' ≡ stop_step settings clients slots d
      → after answer servers own slots' ≡ in_memory settings servers clients slots asked
  unfolding in_memory
  stops d is gives = known (C d) _ is (ap (on_clients servers) gives)

  pub lies : (k d : ℕ) (words : Words) → asked ≡ L k d words
      → placed answer slots' ≡ lie_step settings (stopped_in clients) slots k d words
      → after answer servers clients slots' ≡ in_memory settings servers clients slots asked
  unfolding in_memory
  lies k d words is gives = known (L k d words) _ is (ap (on_slots servers clients) gives)
