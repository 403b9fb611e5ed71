use Rattle.dsr_effect_laws.proofs.FactChanges.{gains_lie, losses_lie}
use Rattle.dsr_effect_laws.proofs.changes_lie_in_the_table.Goals as goal

pub returns-clause-gains : goal.returns-clause-gains
returns-clause-gains c = gains_lie

pub returns-clause-losses : goal.returns-clause-losses
returns-clause-losses c = losses_lie
