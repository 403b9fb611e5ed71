use Rattle.dsr_affected_laws.proofs.Facts.{same_facts}
use Rattle.dsr_affected_laws.proofs.Violated.{same_violated}
use Rattle.dsr_affected_laws.proofs.what_isnt_affected_stays.Goals as goal

pub returns-clause-symbols : goal.returns-clause-symbols
returns-clause-symbols c = same_facts

pub returns-clause-constraints : goal.returns-clause-constraints
returns-clause-constraints c = same_violated
