use Rattle.dsr_template_laws.proofs.Helped.{helped}
use Rattle.dsr_template_laws.proofs.tried_updates_help.Goals as goal

pub returns : goal.returns
returns c = helped
