use Rattle.dsr_normal.proofs.Pushes.{same_form}
use Rattle.dsr_normal.proofs.laws.pushed_formulas_are_distributed.Goals as goal

pub returns : goal.returns
returns c = same_form
