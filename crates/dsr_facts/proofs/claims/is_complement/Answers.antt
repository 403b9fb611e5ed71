use Rattle.std.proofs.Common.{arith}
use Rattle.std.proofs.lemmas.Grind.{elements}
use Rattle.dsr_update_theory.specs.Facts as said
use Rattle.dsr_facts.proofs.claims.is_complement.Goals as goal

pub returns-in-Some-except : goal.returns-in-Some-except
returns-in-Some-except c = grind (arith, elements)

pub returns-in-None-except : goal.returns-in-None-except
returns-in-None-except c = grind (arith, elements)

pub returns-in-None : goal.returns-in-None
returns-in-None c = grind (arith, elements)
