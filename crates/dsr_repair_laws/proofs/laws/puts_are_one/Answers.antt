use Rattle.dsr_repair_laws.proofs.EntryOnce.{all_formed, puts_once}
use Rattle.dsr_repair_laws.proofs.laws.puts_are_one.Goals as goal

pub returns : goal.returns
returns c = λ puts old a b formed. puts_once puts old a b (all_formed puts formed)
