-- One step on a stored world: what the code's ladder refuses changes nothing, and what it lets pass is the
-- model's event.
--
-- `step_law` leaves for each step that the two ladders agree, and what its event does to the memory.
-- Assumes nothing.
use Rattle.basics.proofs.Prelude.{◌≡◌, refl, sym, ap, ◌∙◌, subst, List, Option, None, Some, ℕ}
use Rattle.std.specs.Prelude.{Err}
use Rattle.register.proofs.Vocabulary.{Refusal, Rung, lowest, formats, Settings, Step, Formats, ladder}
use Rattle.register.proofs.Vocabulary.{refusal_of, accepted, event_of, World, Event, refuses, apply, answer_of}
use Rattle.register.proofs.Vocabulary.{next_servers, next_clients, next_stopped, next_up, next_down, leaves_up}
use Rattle.register.proofs.Vocabulary.{leaves_down, puts_up, puts_down}
use Rattle.refusal.proofs.Ladders.{NoneApplies, none_applies, Alike, lowest_same}
use Rattle.register.specs.declared.Step as step
use Rattle.register.specs.Steps.{decided}
use Rattle.register.proofs.Dropping.{nothing_put}
use Rattle.register.proofs.Enabled.{Enabled, enabled}
use Rattle.register.specs.World.{StepAnswer}
use Rattle.state.specs.declared.Settings as code
use Rattle.state.specs.State.{settings_of, step_of, store_servers, store_clients, store_slots}
use Rattle.steps.specs.After.{After, after, unless}
use Rattle.steps.specs.InMemory.{in_memory}

-- what depends on servers, clients and slots, of a stored world
module _ {A : Type 0} where
  abbrev pub on : World → (List ℕ → List ℕ → List ℕ → A) → A
  on world f = f (store_servers world) (store_clients world) (store_slots world)

-- an event's answer, and the memory of the world after it
abbrev pub outcome_of : Settings → World → Event → After
outcome_of S world event = on (apply S world event) (after (answer_of S world event))

-- a step of the code on the memory of a world, and what the model makes of it
abbrev pub memory_at : code.Settings → World → step.Step → After
memory_at settings world asked = on world (in_memory settings) asked

abbrev pub model_at : code.Settings → World → step.Step → After
model_at settings world asked = outcome_of (settings_of settings) world
    (event_of (settings_of settings) formats world (step_of asked))

-- ---- a step

module _ (S : Settings) (world : World) where
  -- a refusal leaves the world as it was
  pub nothing : (why : Refusal) → apply S world (refuses why) ≡ world
  unfolding apply next_servers next_clients next_stopped next_up next_down leaves_up leaves_down puts_up puts_down
  nothing why =
      λ i. record {
        servers = world.servers;
        clients = world.clients;
        stopped = world.stopped;
        up = λ d k. nothing_put (S.faulty k) (world.up d k) i;
        down = λ d k. nothing_put (world.stopped d) (world.down d k) i;
      }

module _ (S : Settings) (F : Formats) (world : World) where
  pub refused : (why : Refusal) → on world (after (Err why)) ≡ outcome_of S world (refuses why)
  unfolding answer_of
  refused why = ap (λ (other : World). on other (after (Err why))) (sym (nothing S world why))

  -- what a step gives, A, has its answer, the slots and, if it changes one, the servers or the clients: `put`
  -- adds what it leaves, and `kept` is a refusal, with the memory as it was
  module _ {A : Type 0} (put : A → After) (kept : StepAnswer → A)
      (same : (answer : StepAnswer) → put (kept answer) ≡ on world (after answer)) where
    decides : (refusal : Option Refusal) (given : A) (event : Event)
        → (refusal ≡ None → put given ≡ outcome_of S world event)
        → put (unless refusal kept given) ≡ outcome_of S world (decided S F refusal event)
    decides None given event h = h refl
    decides (Some why) given event h = same (Err why) ∙ refused why

    pub step_law : (asked : Step) (rungs : List Rung) (given : A) → Alike rungs (ladder S F world asked)
        → (NoneApplies (ladder S F world asked) → Enabled S F world (accepted S F world asked)
        → put given ≡ outcome_of S world (accepted S F world asked))
        → put (unless (lowest rungs) kept given) ≡ outcome_of S world (event_of S F world asked)
    unfolding event_of refusal_of
    step_law asked rungs given agree law =
        rw (lowest_same rungs (ladder S F world asked) agree)
        (decides (lowest (ladder S F world asked)) given (accepted S F world asked)
        (λ e. law (none_applies (ladder S F world asked) e)
        (subst (λ (refusal : Option Refusal). Enabled S F world
        (decided S F refusal (accepted S F world asked))) e (enabled S F world asked))))
