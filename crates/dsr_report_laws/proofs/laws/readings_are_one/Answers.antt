use Rattle.dsr_report_laws.proofs.OneReading.{entries_once}
use Rattle.dsr_report_laws.proofs.laws.readings_are_one.Goals as goal

pub returns : goal.returns
returns c = λ spec entries told other typed one two first second. entries_once spec typed entries told other one two first second
