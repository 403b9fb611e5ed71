use Rattle.dsr_meaning.proofs.Values.{elsewhere}
use Rattle.dsr_meaning.proofs.bytes.others_keep_their_values.Goals as goal

pub returns : goal.returns
returns c = elsewhere
