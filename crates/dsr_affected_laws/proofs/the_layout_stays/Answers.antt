use Rattle.dsr_affected_laws.proofs.Keeping.{layout_stays}
use Rattle.dsr_affected_laws.proofs.the_layout_stays.Goals as goal

pub returns : goal.returns
returns c = layout_stays
