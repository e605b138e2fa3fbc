-- Whatever the lines, the state stays sound.
--
-- Why: a step keeps a sound state sound (`Histories.kept`), and a state at setup is sound where the
-- settings are allowed, as those of an accepted setup are. Before one, nothing is asked of it.
-- Assumes nothing.
use Rattle.refusal.specs.declared.Refusal.{Refusal}
use Rattle.register.proofs.Vocabulary.{formats}
use Rattle.register.proofs.Vocabulary.{new_world}
use Rattle.basics.proofs.Prelude.{◌≡◌, refl, true, List, [], ◌∷◌, ℕ}
use Rattle.std.specs.Prelude.{Option, Some, None, IfSome, Result, Ok, Err}
use Rattle.register.proofs.Reachable.{well_new}
use Rattle.register.specs.declared.Setup.{Setup}
use Rattle.state.specs.declared.Settings.{Settings}
use Rattle.state.specs.Sound.{is_sound}
use Rattle.state.specs.State.{settings_of, store_servers, store_clients, store_slots}
use Rattle.state.proofs.SoundFacts.{Allowed}
use Rattle.state.proofs.StoredSound.{stored_state}
use Rattle.system.specs.Setup.{setup_of}
use Rattle.system.proofs.Histories.{kept}
use Rattle.system.proofs.SetupLaws.{allowed_set}
use Rattle.register.specs.declared.Step.{Step}
use Rattle.script.specs.declared.parse.Line.{Line}
use Rattle.script.specs.declared.parse.Line.TheVariants as line
use Rattle.script.specs.Grammar.{line_of}
use Rattle.rehearse.specs.Stage.{Stage, stage, step_stage, set_up, after, stage_after}

-- after an accepted setup the state is sound
abbrev pub Sound : Stage → Type 0
Sound known =
    IfSome known.settings (λ settings. is_sound settings known.servers known.clients known.slots ≡ true)

-- ---- a state at setup

new_sound : (settings : Settings) → Allowed settings
    → is_sound settings (store_servers new_world) (store_clients new_world) (store_slots new_world) ≡ true
new_sound settings allowed = stored_state settings allowed new_world (well_new (settings_of settings) formats)

set_sound : (known : Stage) (asked : Setup) (answer : Result Settings Refusal) → setup_of asked.f asked.n asked.clients asked.faulty ≡ answer
    → Sound known → Sound (set_up known answer)
set_sound known asked (Ok settings) e sound =
    new_sound settings (allowed_set asked.f asked.n asked.clients asked.faulty settings e)
set_sound known asked (Err why) e sound = sound

-- ---- after a line, and after lines

step_sound : (settings : Option Settings) (servers clients slots : List ℕ) (number : ℕ) (step : Step)
    → Sound (stage settings servers clients slots number)
    → Sound (step_stage (stage settings servers clients slots number) settings step)
step_sound (Some settings) servers clients slots number step sound =
    kept settings servers clients slots step sound
step_sound None servers clients slots number step sound = sound

pub line_sound : (known : Stage) (first : Option Line) → Sound known → Sound (after known first)
unfolding after
line_sound known (Some (line.Setup asked)) sound =
    set_sound known asked (setup_of asked.f asked.n asked.clients asked.faulty) refl sound
line_sound known (Some (line.Do step)) sound =
    step_sound known.settings known.servers known.clients known.slots known.number step sound
line_sound known None sound = sound

pub stage_sound : (known : Stage) (rest : List (List ℕ)) → Sound known → Sound (stage_after known rest)
unfolding stage_after
stage_sound known [] sound = sound
stage_sound known (first ∷ rest) sound =
    stage_sound (after known (line_of first)) rest (line_sound known (line_of first) sound)
