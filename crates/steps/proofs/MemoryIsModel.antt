-- The code's account of a step is the model's, on the memory of any well-formed world, for all six steps and
-- any arguments.
--
-- A step that names a client or a server that there is not is refused before anything else is looked at;
-- otherwise the step's own law holds.
-- Assumes nothing.
use Rattle.basics.proofs.Prelude.{◌≡◌, Bool, true, false, ◌&&◌}
use Rattle.basics.proofs.Cases.{by_test, both}
use Rattle.refusal.specs.declared.Refusal.TheVariants.{NoSuchProcess}
use Rattle.register.specs.declared.Step.{Step}
use Rattle.register.specs.declared.Step.TheVariants as code
use Rattle.register.proofs.Vocabulary.{formats, Accepted, is_server, is_client, ladder, refusal_of, event_of}
use Rattle.register.proofs.Vocabulary.{World, WellFormed}
use Rattle.state.specs.declared.Settings.{Settings}
use Rattle.state.specs.State.{settings_of, step_of}
use Rattle.steps.specs.InMemory.{read_step, write_step, serve_step, take_step, stop_step, lie_step, in_memory}
use Rattle.steps.proofs.Modelled.{memory_at, model_at, refused}
use Rattle.steps.proofs.Rooms.{WellStored}
use Rattle.steps.proofs.Starts.{read_law, write_law}
use Rattle.steps.proofs.Serves.{serve_law}
use Rattle.steps.proofs.Takes.{take_law}
use Rattle.steps.proofs.Stops.{stop_law}
use Rattle.steps.proofs.Lies.{lie_law}

-- the client, or the client and the server, that a step names are there
abbrev is_there : Settings → Step → Bool
is_there settings (code.R d) = is_client (settings_of settings) d
is_there settings (code.W d entry) = is_client (settings_of settings) d
is_there settings (code.K k d) = is_client (settings_of settings) d && is_server (settings_of settings) k
is_there settings (code.D d k) = is_client (settings_of settings) d && is_server (settings_of settings) k
is_there settings (code.C d) = is_client (settings_of settings) d
is_there settings (code.L k d given) = is_client (settings_of settings) d && is_server (settings_of settings) k

module _ (settings : Settings) (accepted : Accepted (settings_of settings)) (world : World)
    (well : WellFormed (settings_of settings) formats world) where
  good : WellStored settings world
  good = record { accepted = accepted; well = well }

  absent : (asked : Step) → is_there settings asked ≡ false → memory_at settings world asked
      ≡ model_at settings world asked
  unfolding in_memory read_step write_step serve_step take_step stop_step lie_step step_of event_of refusal_of ladder
  absent (code.R d) there = rw there (refused (settings_of settings) formats world NoSuchProcess)
  absent (code.W d entry) there = rw there (refused (settings_of settings) formats world NoSuchProcess)
  absent (code.K k d) there = rw there (refused (settings_of settings) formats world NoSuchProcess)
  absent (code.D d k) there = rw there (refused (settings_of settings) formats world NoSuchProcess)
  absent (code.C d) there = rw there (refused (settings_of settings) formats world NoSuchProcess)
  absent (code.L k d given) there = rw there (refused (settings_of settings) formats world NoSuchProcess)

  present : (asked : Step) → is_there settings asked ≡ true → memory_at settings world asked
      ≡ model_at settings world asked
  present (code.R d) there = read_law settings world good d there
  present (code.W d entry) there = write_law settings world good d there entry
  present (code.K k d) there =
      let named = both (is_client (settings_of settings) d) (is_server (settings_of settings) k) there in
      serve_law settings world good k d named.0 named.1
  present (code.D d k) there =
      let named = both (is_client (settings_of settings) d) (is_server (settings_of settings) k) there in
      take_law settings world good d k named.0 named.1
  present (code.C d) there = stop_law settings world good d there
  present (code.L k d given) there =
      let named = both (is_client (settings_of settings) d) (is_server (settings_of settings) k) there in
      lie_law settings world good k d named.0 named.1 given

  pub memory_is_model : (asked : Step) → memory_at settings world asked ≡ model_at settings world asked
  memory_is_model asked = by_test (is_there settings asked) (present asked) (absent asked)
