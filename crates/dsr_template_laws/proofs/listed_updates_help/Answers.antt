use Rattle.dsr_template_laws.proofs.Helped.{listed_helped}
use Rattle.dsr_template_laws.proofs.listed_updates_help.Goals as goal

pub returns : goal.returns
returns c = listed_helped
