-- Demand 3 holds: for every accepted setting and every list of steps. This is `demand_three_lem`.
--
-- Rows and their agreement are `Regular`. A quiet client is idle at the end of the list (`Quiet`), and an
-- operation that has not ended leaves its client in a phase that is not idle (`ReadStatus`, `WriteStatus`);
-- so it has nothing open. All of it is for any lawful formats; this repository's are lawful (`Formats`).
-- Assumes nothing.
use Rattle.basics.proofs.Prelude.{length, ℕ}
use Rattle.basics.proofs.Cases.{by_either, clash}
use Rattle.register.specs.Formats.{formats}
use Rattle.register.specs.History.{Quiet, NothingOpen}
use Rattle.register.specs.DemandThree.{Holds, DemandThree}
use Rattle.register.proofs.Run.{Run}
use Rattle.register.proofs.Formats.{lawful}
use Rattle.register.proofs.ReadStatus.{read_status}
use Rattle.register.proofs.WriteStatus.{in_phase_lem, write_status}
use Rattle.register.proofs.Translation.{read_begins, write_begins, writes_in, writes_out}
use Rattle.register.proofs.Finished.{read_ends}
use Rattle.register.proofs.Regular.{row, is_row, agree}
use Rattle.register.proofs.Quiet.{idle}

module _ (run : Run) where
  pub nothing_open : (d : ℕ) → Quiet run.settings run.judge run.steps d
      → NothingOpen run.settings run.judge run.steps d
  nothing_open d quiet =
      let now = idle run (length run.steps) d quiet.client quiet.works quiet.no_write quiet.up
      quiet.down in
      record {
        reads = λ begin begun. by_either
            (read_status run begin d (read_begins run begun) (length run.steps) begun.in_list)
            (λ status. let h = status.phase in clash (cc))
            (λ ended. (ended.at, ended.how.pair, read_ends run begin d begun ended));
        writes = λ begin begun. by_either
            (write_status run begin d begun.entry (write_begins run begun) (length run.steps)
            begun.in_list)
            (λ status. in_phase_lem run begin d begun.entry (length run.steps) status (λ h. clash (cc))
            (λ count h. clash (cc))) (λ ended. (
              ended.at,
              record {
                begins = begun;
                later = ended.after;
                ends = writes_out run ended.before ended.how.ends.writes;
                next = λ i lo hi writes. ended.how.ends.first i lo hi (writes_in run writes);
              },
            ));
      }

  pub holds : Holds run.settings run.judge run.steps
  holds = record { row = row run; rows = is_row run; agree = agree run; quiet = nothing_open }

pub demand_three_lem : DemandThree
demand_three_lem settings accepted steps =
    holds (record {
      settings = settings;
      judge = formats;
      steps = steps;
      accepted = accepted;
      lawful = lawful;
    })
