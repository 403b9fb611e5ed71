use Rattle.dsr_bound_laws.proofs.Whole.{remaining_falls}
use Rattle.dsr_bound_laws.proofs.laws.remaining_falls.Goals as goal

pub returns : goal.returns
returns c spec choice layout old new entry n m plan image after step was now =
    remaining_falls spec choice layout old new entry plan image step n m after was now
