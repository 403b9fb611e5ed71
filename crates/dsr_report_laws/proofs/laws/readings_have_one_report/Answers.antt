use Rattle.dsr_report_laws.proofs.ReadAs.{one_text}
use Rattle.dsr_report_laws.proofs.laws.readings_have_one_report.Goals as goal

pub returns : goal.returns
returns c = λ spec entries told read. one_text spec entries told read
