use Rattle.dsr_run_laws.proofs.RunOnce.{due_entry_once}
use Rattle.dsr_run_laws.proofs.laws.due_entries_are_one.Goals as goal

pub returns : goal.returns
returns c = λ spec choice layout old a b entry other plan. due_entry_once spec choice layout plan old a b entry other
