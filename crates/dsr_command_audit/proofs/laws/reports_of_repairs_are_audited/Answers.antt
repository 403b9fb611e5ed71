use Rattle.dsr_command_audit.proofs.Joined.{audited_once}
use Rattle.dsr_command_audit.proofs.laws.reports_of_repairs_are_audited.Goals as goal

pub returns : goal.returns
returns c = λ spec choice image report fixed run answer names plan few its. audited_once spec choice image report fixed run names plan few its answer
