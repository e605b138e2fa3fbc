-- A run of a list of steps, by whichever function makes them: before each step its memory is sound, and one step
-- more is one turn more.
--
-- Why: the worlds of a history are well formed (`register`), so a step of one, stored, is the model's. Step
-- i of the numbers in memory is step i of the history's list (`step_at_lem`), so what a turn leaves is the
-- history's next world, and what it answers is the history's answer (`run_more`).
-- Assumes nothing.
use Rattle.basics.proofs.Prelude.{◌≡◌, true, refl, subst, ap, ◌∙◌, List, get_or, ℕ, suc, ◌+◌, ◌<◌, add-one}
use Rattle.basics.proofs.Listed.{listed_get}
use Rattle.register.specs.declared.Step.{Step}
use Rattle.register.proofs.Vocabulary.{formats, world_at, answer_at, World, new_world, apply, answer_of}
use Rattle.register.proofs.Vocabulary.{WellFormed}
use Rattle.register.specs.Settings as register
use Rattle.register.specs.Steps as model
use Rattle.register.proofs.Formats.{lawful}
use Rattle.register.proofs.Reachable.{well_formed_lem}
use Rattle.state.specs.declared.Settings.{Settings}
use Rattle.state.specs.State.{settings_of, step_of}
use Rattle.state.proofs.SoundFacts.{Allowed}
use Rattle.state.proofs.StoredSound.{stored_state}
use Rattle.state.specs.Sound.{is_sound}
use Rattle.steps.specs.After.{After}
use Rattle.system.specs.Run.{step_in, steps_in, put_answer, answered, Run}
use Rattle.system.specs.Step.{stored_by, stepped}
use Rattle.system.specs.Stored.{Stored}
use Rattle.system.proofs.Histories.{stored_stepped}
use Rattle.system.proofs.Turn.{event_in}

module _ (settings : Settings) (list : List ℕ) (n : ℕ) (out : List ℕ) where
  -- before the first step nothing is written
  pub run_none : (servers clients slots : List ℕ) → Stored new_world servers clients slots
      → Run settings list out n 0 servers clients slots out
  unfolding answered world_at
  run_none servers clients slots stored = record { stored = stored; answers = refl }

  abbrev S : register.Settings
  S = settings_of settings

  abbrev at : ℕ → World
  at i = world_at S formats (steps_in list n) i

  module _ (i : ℕ) (less : i < n) where
    step_at_lem : get_or (steps_in list n) i (model.R 0) ≡ step_of (step_in list i)
    unfolding steps_in
    step_at_lem = listed_get (λ j. step_of (step_in list j)) n i (model.R 0) less

    next_world : at (suc i) ≡ apply S (at i) (event_in settings (at i) (step_in list i))
    unfolding world_at
    next_world = ap (λ (asked : model.Step). apply S (at i) (model.event_of S formats (at i) asked)) step_at_lem

    next_answer : answer_at S formats (steps_in list n) i
        ≡ answer_of S (at i) (event_in settings (at i) (step_in list i))
    next_answer = ap (λ (asked : model.Step). answer_of S (at i) (model.event_of S formats (at i) asked))
        step_at_lem

    module _ (allowed : Allowed settings) (servers clients slots old : List ℕ)
        (run : Run settings list out n i servers clients slots old) where
      run_more : (given : After) (new : List ℕ) → new ≡ put_answer old i given.answer
          → given ≡ stored_by settings (at i) (event_in settings (at i) (step_in list i))
          → Run settings list out n (i + 1) given.servers given.clients given.slots new
      unfolding answered
      run_more given new written is =
          let world = next_world in
          let answer = next_answer in
          let old_is = run.answers in
          rw (add-one i)
          (record { stored = record { servers = cc; clients = cc; slots = cc }; answers = cc })

      well : WellFormed S formats (at i)
      well = well_formed_lem S formats allowed.accepted lawful (steps_in list n) i

      pub run_sound : is_sound settings servers clients slots ≡ true
      run_sound =
          let stored = run.stored in
          (λ q. is_sound settings (stored.servers q) (stored.clients q) (stored.slots q))
          ∙ stored_state settings allowed (at i) well

      module _ (asked : Step) (same : asked ≡ step_in list i) (given : After) (new : List ℕ)
          (written : new ≡ put_answer old i given.answer) where
        pub turn : given ≡ stepped settings servers clients slots asked
            → Run settings list out n (i + 1) given.servers given.clients given.slots new
        turn is =
            let stored = run.stored in
            run_more given new written
            (is ∙ (λ q. stepped settings (stored.servers q) (stored.clients q) (stored.slots q) (same q))
            ∙ stored_stepped settings allowed (at i) well (step_in list i))

-- after all steps, as many as there are
pub run_whole : (settings : Settings) (list out : List ℕ) (n i many : ℕ) → i ≡ n → n ≡ many
    → (servers clients slots written : List ℕ) → Run settings list out n i servers clients slots written
    → Run settings list out many many servers clients slots written
run_whole settings list out n i many last all servers clients slots written run =
    subst (λ (k : ℕ). Run settings list out k k servers clients slots written) all
    (subst (λ (k : ℕ). Run settings list out n k servers clients slots written) last run)
