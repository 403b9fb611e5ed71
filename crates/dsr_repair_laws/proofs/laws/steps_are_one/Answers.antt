use Rattle.dsr_repair_laws.proofs.EntryOnce.{step_once}
use Rattle.dsr_repair_laws.proofs.laws.steps_are_one.Goals as goal

pub returns : goal.returns
returns c = λ spec layout step update old a b legal. step_once spec layout step legal update old a b
