use Rattle.dsr_bound_laws.proofs.Whole.{remaining_bounded}
use Rattle.dsr_bound_laws.proofs.laws.remaining_is_bounded.Goals as goal

pub returns : goal.returns
returns c = remaining_bounded
