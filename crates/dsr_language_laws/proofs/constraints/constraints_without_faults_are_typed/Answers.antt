use Rattle.dsr_language_laws.proofs.TypedConstraints.{constraints_are_typed, few_constraints, names_differ}
use Rattle.dsr_language_laws.proofs.constraints.constraints_without_faults_are_typed.Goals as goal

pub returns : goal.returns
returns c = record { typed = λ base rules constraints typed no_rule e. constraints_are_typed base typed rules constraints no_rule e; few = few_constraints; names = names_differ }
