use Rattle.dsr_affected_laws.proofs.Cases.{edit_case}
use Rattle.dsr_affected_laws.proofs.a_written_value_affects_two_symbols.Goals as goal

pub returns : goal.returns
returns c = edit_case
