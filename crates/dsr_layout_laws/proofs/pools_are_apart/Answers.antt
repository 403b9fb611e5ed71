-- Cells of two pools share no bit.
use Rattle.dsr_layout_laws.proofs.Records.{in_other_pools}
use Rattle.dsr_layout_laws.proofs.pools_are_apart.Goals as goal

pub returns : goal.returns
returns c = in_other_pools
