use Rattle.dsr_command_audit.proofs.Joined.{undone_once}
use Rattle.dsr_command_audit.proofs.laws.audited_repairs_are_taken_back.Goals as goal

pub returns : goal.returns
returns c = λ spec choice image report fixed run ending names plan few its. undone_once spec choice image report fixed run names plan few its ending
