use Rattle.dsr_report_laws.proofs.EntriesTold.{run_formed}
use Rattle.dsr_report_laws.proofs.OneReading.{own_entries}
use Rattle.dsr_report_laws.proofs.ReadAs.{own_reported}
use Rattle.dsr_report_laws.proofs.laws.own_field_names_are_read_back.Goals as goal

pub returns-clause-reported : goal.returns-clause-reported
returns-clause-reported c = λ spec choice layout old new entries own plan image steps. own_reported spec own entries (run_formed spec choice layout plan old new entries image steps)

pub returns-clause-alone : goal.returns-clause-alone
returns-clause-alone c = λ spec entries told own read. own_entries spec own entries told read
