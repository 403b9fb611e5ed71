use Rattle.dsr_step_laws.proofs.Shown.{each_goal}
use Rattle.dsr_step_laws.proofs.applications.each_goal_has_an_application.Goals as goal

pub returns : goal.returns
returns c = each_goal
