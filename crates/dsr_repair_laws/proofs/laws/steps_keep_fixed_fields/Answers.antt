use Rattle.dsr_repair_laws.proofs.Kept.{fixed_fields_kept}
use Rattle.dsr_repair_laws.proofs.laws.steps_keep_fixed_fields.Goals as goal

pub returns : goal.returns
returns c = fixed_fields_kept
