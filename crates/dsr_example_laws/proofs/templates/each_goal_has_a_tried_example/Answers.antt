use Rattle.dsr_example_laws.proofs.TriedExamples.{each_goal}
use Rattle.dsr_example_laws.proofs.templates.each_goal_has_a_tried_example.Goals as goal

pub returns : goal.returns
returns c = each_goal
