use Rattle.dsr_repair_laws.proofs.Kept.{layout_kept}
use Rattle.dsr_repair_laws.proofs.laws.steps_keep_the_layout.Goals as goal

pub returns : goal.returns
returns c = layout_kept
