-- One step of a state: refused where the state is not sound (3), or where the model refuses it, and otherwise
-- the model's accepted step of the world that the state stands for. A list of steps is in `Along`.
--
-- In order: what a step gives; a step; any bytes as the message of L. That a step of a sound state is the
-- model's event, stored, is in proofs/Refusals; that it keeps a state sound, in proofs/Histories.
-- Assumes nothing.
use Rattle.std.specs.Prelude.{ℕ, ◌^◌, cond, List, eqb, length, Err}
use Rattle.basics.specs.Bytes.{spelt}
use Rattle.refusal.specs.Numbers.{numbered}
use Rattle.message.specs.declared.Words.{Words}
use Rattle.message.specs.Layout.{message_bytes, words, head_bits}
use Rattle.register.specs.declared.Step.{Step}
use Rattle.register.specs.Formats.{formats}
use Rattle.register.specs.Steps.{refusal_of, accepted}
use Rattle.register.specs.World.{World, Event, StepAnswer, apply, answer_of}
use Rattle.state.specs.declared.Settings.{Settings}
use Rattle.state.specs.Sound.{is_sound}
use Rattle.state.specs.State.{settings_of, step_of, store_servers, store_clients, store_slots, view}
use Rattle.steps.specs.After.{After, after, unless}

-- what an event answers, and the next world stored
abbrev pub stored_by : Settings → World → Event → After
stored_by settings world event =
    let next = apply (settings_of settings) world event in
    after (answer_of (settings_of settings) world event) (store_servers next) (store_clients next)
    (store_slots next)

-- an unsound state is refused (3), all as it was; a sound one is refused by the model's ladder, all as it
-- was, or else makes the model's accepted step, stored
unfoldable pub stepped : Settings → List ℕ → List ℕ → List ℕ → Step → After
stepped settings servers clients slots asked =
    let world = view servers clients slots in
    let kept : StepAnswer → After = λ answer. after answer servers clients slots in
    cond (is_sound settings servers clients slots)
    (unless (refusal_of (settings_of settings) formats world (step_of asked)) kept
    (stored_by settings world (accepted (settings_of settings) formats world (step_of asked))))
    (kept (Err (numbered 3)))

-- ---- a message of L

-- what stands for bytes that are not eleven
abbrev pub no_words : Words
no_words = record { 0 = 2 ^ head_bits; 1 = 0 }

-- eleven bytes as two words
unfoldable pub words_in : List ℕ → Words
words_in bytes = cond (eqb (length bytes) message_bytes) (words (spelt 0 bytes)) no_words
