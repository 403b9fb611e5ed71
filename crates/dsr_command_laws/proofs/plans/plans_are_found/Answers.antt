use Rattle.dsr_command_laws.proofs.PlansFound.{finds_nothing_else, finds_plans}
use Rattle.dsr_command_laws.proofs.plans.plans_are_found.Goals as goal

pub returns : goal.returns
returns c = record {
  plans = finds_plans c.texts_have_one_meaning.ensures;
  nothing_else = finds_nothing_else c.texts_have_one_meaning.ensures;
}
