use Rattle.dsr_bound_laws.proofs.Same.{remaining_once}
use Rattle.dsr_bound_laws.proofs.There.{remaining_there}
use Rattle.dsr_bound_laws.proofs.laws.remaining_is_a_number.Goals as goal

pub returns-clause-once : goal.returns-clause-once
returns-clause-once c = remaining_once

pub returns-clause-there : goal.returns-clause-there
returns-clause-there c spec choice layout bytes plan image = remaining_there spec choice plan layout bytes image
