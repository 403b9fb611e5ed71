use Rattle.dsr_effect_laws.proofs.FactChanges.{lost_facts_lie, new_facts_lie}
use Rattle.dsr_effect_laws.proofs.facts_that_change_lie_in_the_table.Goals as goal

pub returns-clause-gains : goal.returns-clause-gains
returns-clause-gains c = new_facts_lie

pub returns-clause-losses : goal.returns-clause-losses
returns-clause-losses c = lost_facts_lie
