use Rattle.dsr_command_laws.proofs.UsageTold.{tells_usage}
use Rattle.dsr_command_laws.proofs.images.usage_is_told.Goals as goal

pub returns : goal.returns
returns c = tells_usage c.usage_has_six_reasons.ensures.nothing
