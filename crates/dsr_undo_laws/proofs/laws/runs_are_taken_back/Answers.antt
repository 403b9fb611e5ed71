use Rattle.dsr_undo_laws.proofs.Runs.{run_back}
use Rattle.dsr_undo_laws.proofs.laws.runs_are_taken_back.Goals as goal

pub returns : goal.returns
returns c = record {
  part_run = λ spec choice layout old new entries image plan run. run_back spec choice layout plan old new entries image run;
  run = λ spec choice layout old new entries outcome image plan run. run_back spec choice layout plan old new entries image run.steps;
}
