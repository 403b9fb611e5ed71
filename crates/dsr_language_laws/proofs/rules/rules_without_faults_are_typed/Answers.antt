use Rattle.dsr_language_laws.proofs.TypedRules.{rules_are_typed, few_rules}
use Rattle.dsr_language_laws.proofs.rules.rules_without_faults_are_typed.Goals as goal

pub returns : goal.returns
returns c = record { typed = λ base rules _ e. rules_are_typed base rules e; few = few_rules }
