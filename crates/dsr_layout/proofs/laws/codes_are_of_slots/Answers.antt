use Rattle.dsr_layout.proofs.Codes.{code_below, below_code}
use Rattle.dsr_layout.proofs.laws.codes_are_of_slots.Goals as goal

pub returns : goal.returns
returns c n value = (below_code n value n.count, λ found. code_below n value n.count found.0 found.1.0 found.1.1)
