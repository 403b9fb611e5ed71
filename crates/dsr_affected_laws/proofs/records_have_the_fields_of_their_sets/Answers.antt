use Rattle.dsr_affected_laws.proofs.Records.{of_pool, of_set}
use Rattle.dsr_affected_laws.proofs.records_have_the_fields_of_their_sets.Goals as goal

pub returns-clause-pools : goal.returns-clause-pools
returns-clause-pools c = of_pool

pub returns-clause-sets : goal.returns-clause-sets
returns-clause-sets c = of_set
