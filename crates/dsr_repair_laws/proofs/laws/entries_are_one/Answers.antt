use Rattle.dsr_repair_laws.proofs.EntryOnce.{entry_once}
use Rattle.dsr_repair_laws.proofs.laws.entries_are_one.Goals as goal

pub returns : goal.returns
returns c = λ spec layout step update old a b entry other legal. entry_once spec layout step legal update old a b entry other
