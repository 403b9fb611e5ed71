use Rattle.dsr_layout.proofs.Counted.{few_instances}
use Rattle.dsr_layout.proofs.laws.instances_are_few.Goals as goal

pub returns : goal.returns
returns c spec bytes layout is = few_instances spec bytes is.accepted layout is.numbers
