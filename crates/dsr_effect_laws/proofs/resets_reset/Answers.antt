use Rattle.dsr_effect_laws.proofs.Reset.{is_reset}
use Rattle.dsr_effect_laws.proofs.resets_reset.Goals as goal

pub returns : goal.returns
returns c = is_reset
