use Rattle.dsr_bound_laws.proofs.Whole.{rises_above}
use Rattle.dsr_bound_laws.proofs.laws.violations_rise_above_alone.Goals as goal

pub returns : goal.returns
returns c spec choice layout old new entry w row other plan image step now before row_is other_is =
    rises_above spec choice layout old new entry plan image step w row other now before row_is other_is
