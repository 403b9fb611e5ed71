use Rattle.dsr_layout.proofs.Fitting.{has_size}
use Rattle.dsr_layout.proofs.laws.structures_have_sizes.Goals as goal

pub returns : goal.returns
returns c = has_size
