use Rattle.dsr_model_laws.proofs.Functional.{one_target}
use Rattle.dsr_model_laws.proofs.laws.functional_relations_have_one_target.Goals as goal

pub returns : goal.returns
returns c = one_target
