use Rattle.dsr_command_laws.proofs.PlansCertified.{certifies_nothing_else, certifies_plans}
use Rattle.dsr_command_laws.proofs.plans.plans_are_certified.Goals as goal

pub returns : goal.returns
returns c = record {
  certificates = certifies_plans c.certificates_of_plans_are_valid.ensures.taken c.texts_have_one_meaning.ensures;
  nothing_else = certifies_nothing_else c.certificates_of_plans_are_valid.ensures.taken c.texts_have_one_meaning.ensures;
}
