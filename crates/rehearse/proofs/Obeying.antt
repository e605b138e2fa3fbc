-- A line is obeyed as the definitions say: a setup that is accepted or refused, or a line that is unreadable.
--
-- Why: each is one equation of `output_of` and `after`.
-- Assumes nothing.
use Rattle.basics.proofs.Prelude.{◌≡◌, refl, sym, ap, ◌∙◌, List, ℕ}
use Rattle.std.specs.Prelude.{Option, Some, None, Ok, Err}
use Rattle.register.proofs.Vocabulary.{Refusal, new_world}
use Rattle.script.specs.declared.parse.Line.TheVariants as line
use Rattle.script.specs.declared.print.Output.TheVariants as output
use Rattle.script.specs.Numerals.{next_number}
use Rattle.register.specs.declared.Setup.{Setup}
use Rattle.state.specs.declared.Settings.{Settings}
use Rattle.system.specs.Setup.{setup_of}
use Rattle.system.specs.Stored.{Stored}
use Rattle.rehearse.specs.Stage.{Stage, stage, setup_output, set_up, output_of, after, Obeys}

module _ (settings : Option Settings) (servers clients slots : List ℕ) (number : ℕ) where
  abbrev known : Stage
  known = stage settings servers clients slots number

  pub obeys_set : (asked : Setup) (accepted : Settings) (servers' clients' slots' : List ℕ)
      → setup_of asked.f asked.n asked.clients asked.faulty ≡ Ok accepted → Stored new_world servers' clients' slots'
      → Obeys known (Some (line.Setup asked)) output.Set (stage (Some accepted) servers' clients' slots')
  unfolding output_of after
  obeys_set asked accepted servers' clients' slots' is stored =
      record {
        prints = ap setup_output (sym is);
        leaves =
            (λ i. stage (Some accepted) (stored.servers i) (stored.clients i) (stored.slots i)
            (next_number number)) ∙ ap (set_up known) (sym is);
      }

  pub obeys_refused : (asked : Setup) (why : Refusal) (servers' clients' slots' : List ℕ)
      → setup_of asked.f asked.n asked.clients asked.faulty ≡ Err why
      → (servers' ≡ servers) × (clients' ≡ clients) × (slots' ≡ slots)
      → Obeys known (Some (line.Setup asked)) (output.Answered (Err why))
      (stage settings servers' clients' slots')
  unfolding output_of after
  obeys_refused asked why servers' clients' slots' is kept =
      record {
        prints = ap setup_output (sym is);
        leaves =
            (λ i. stage settings (kept.0 i) (kept.1 i) (kept.2 i) (next_number number))
            ∙ ap (set_up known) (sym is);
      }

  pub obeys_unread : Obeys known None output.Unread (stage settings servers clients slots)
  unfolding output_of after
  obeys_unread = record { prints = refl; leaves = refl }
