use Rattle.dsr_report_laws.proofs.EntriesTold.{run_formed}
use Rattle.dsr_report_laws.proofs.ReadAs.{entries_read, one_text}
use Rattle.dsr_report_laws.proofs.laws.runs_are_reported.Goals as goal

pub returns : goal.returns
returns c = λ spec choice layout old new entries plan image steps.
    let found = entries_read spec entries (run_formed spec choice layout plan old new entries image steps) in
    (found.0, found.1.read, found.1.reported, one_text spec entries found.0 found.1.read)
