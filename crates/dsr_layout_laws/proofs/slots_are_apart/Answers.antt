-- Cells of two slots of a pool share no bit.
use Rattle.dsr_layout_laws.proofs.Records.{in_other_slots}
use Rattle.dsr_layout_laws.proofs.slots_are_apart.Goals as goal

pub returns : goal.returns
returns c layout = in_other_slots layout
