-- A step of a sound state is the model's event, stored (`sound_step`). And where a step answers with a
-- refusal, all is as it was (01: 'state and lent memory keep their contents'; `refused_keeps`).
--
-- A refusal changes no part of the world (`nothing` of `steps`), and the stored form of a sound state's world
-- is that state. No event but a refusal answers with one: what a client takes is shown, written, spent or
-- goes on (`refused_event`).
-- Assumes nothing.
use Rattle.basics.proofs.Prelude.{◌≡◌, refl, sym, ap, ◌∙◌, true, false, List, Option, None, Some, ℕ}
use Rattle.std.specs.Prelude.{Err}
use Rattle.basics.proofs.Cases.{by_test, clash}
use Rattle.register.proofs.Vocabulary.{Refusal, formats, Settings, refusal_of}
use Rattle.register.proofs.Vocabulary.{accepted, event_of, World, Event, refuses, begins, serves, takes, stops}
use Rattle.register.proofs.Vocabulary.{lies, answer_of}
use Rattle.register.specs.declared.Step.{Step}
use Rattle.register.specs.Steps.{decided}
use Rattle.register.specs.World.{StepAnswer}
use Rattle.state.specs.declared.Settings as code
use Rattle.state.specs.Sound.{is_sound}
use Rattle.state.specs.State.{settings_of, step_of, store_servers, store_clients, store_slots, view}
use Rattle.state.proofs.SoundFacts.{facts}
use Rattle.state.proofs.Restored.{servers_back, clients_back, slots_back}
use Rattle.steps.specs.After.{After, after, unless}
use Rattle.steps.proofs.Modelled.{nothing}
use Rattle.system.specs.Step.{stored_by, stepped}
use Rattle.system.proofs.Turn.{event_in}

module _ (S : Settings) (world : World) where
  refused_event : (event : Event) (why : Refusal) → answer_of S world event ≡ Err why → event ≡ refuses why
  unfolding answer_of
  refused_event (refuses other) why h = let z : other ≡ why = cc in ap refuses z
  refused_event (begins d phase) why h = clash (cc)
  refused_event (serves k d message rest) why h = clash (cc)
  refused_event (takes d k message rest) why h = clash (cc)
  refused_event (stops d) why h = clash (cc)
  refused_event (lies k d message) why h = clash (cc)

module _ (settings : code.Settings) (servers clients slots : List ℕ)
    (sound : is_sound settings servers clients slots ≡ true) where
  -- the world that the state stands for
  abbrev world : World
  world = view servers clients slots

  refusal_stored : (why : Refusal) → stored_by settings world (refuses why)
      ≡ after (Err why) servers clients slots
  unfolding answer_of
  refusal_stored why =
      let known = facts settings servers clients slots sound in
      let servers_same = servers_back settings servers clients slots known in
      let clients_same = clients_back settings servers clients slots known in
      let slots_same = slots_back settings servers clients slots known in
      ap (λ (v : World). after (Err why) (store_servers v) (store_clients v) (store_slots v))
      (nothing (settings_of settings) world why)
      ∙ (λ q. after (Err why) (servers_same q) (clients_same q) (slots_same q))

  by_ladder : (refusal : Option Refusal) (event : Event)
      → unless refusal (λ a. after a servers clients slots) (stored_by settings world event)
      ≡ stored_by settings world (decided (settings_of settings) formats refusal event)
  by_ladder None event = refl
  by_ladder (Some why) event = sym (refusal_stored why)

  pub sound_step : (asked : Step) → stepped settings servers clients slots asked ≡ stored_by settings world
      (event_in settings world asked)
  unfolding stepped event_of
  sound_step asked =
      let S = settings_of settings in
      rw sound (by_ladder (refusal_of S formats world (step_of asked))
      (accepted S formats world (step_of asked)))

  sound_keeps : (asked : Step) (why : Refusal) → (stepped settings servers clients slots asked).answer
      ≡ Err why
      → stepped settings servers clients slots asked ≡ after (Err why) servers clients slots
  sound_keeps asked why h =
      let is = sound_step asked in
      let same = ap (λ (given : After). given.answer) (sym is) ∙ h in
      is ∙ ap (stored_by settings world)
      (refused_event (settings_of settings) world (event_in settings world asked) why same) ∙ refusal_stored why

module _ (settings : code.Settings) (servers clients slots : List ℕ) (asked : Step) (why : Refusal) where
  unsound_keeps : is_sound settings servers clients slots ≡ false
      → (stepped settings servers clients slots asked).answer ≡ Err why
      → stepped settings servers clients slots asked ≡ after (Err why) servers clients slots
  unfolding stepped
  unsound_keeps e = rw e (λ h. ap (λ (a : StepAnswer). after a servers clients slots) h)

  pub refused_keeps : (stepped settings servers clients slots asked).answer ≡ Err why
      → stepped settings servers clients slots asked ≡ after (Err why) servers clients slots
  refused_keeps = by_test (is_sound settings servers clients slots)
      (λ e. sound_keeps settings servers clients slots e asked why) unsound_keeps
