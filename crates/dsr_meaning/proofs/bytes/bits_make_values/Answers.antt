use Rattle.dsr_meaning.proofs.Values.{cell_stays}
use Rattle.dsr_meaning.proofs.bytes.bits_make_values.Goals as goal

pub returns : goal.returns
returns c = cell_stays
