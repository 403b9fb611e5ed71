use Rattle.std.proofs.Common.{arith}
use Rattle.std.proofs.lemmas.Grind.{common_steps}
use Rattle.dsr_print.proofs.atoms.add_atom.Goals as goal

pub returns-in_ok-add_bound-in-Count : goal.returns-in_ok-add_bound-in-Count
returns-in_ok-add_bound-in-Count c = grind (arith, common_steps)

pub returns-in_ok-add_keyword-in-Member : goal.returns-in_ok-add_keyword-in-Member
returns-in_ok-add_keyword-in-Member c = grind (arith, common_steps)

pub returns-in_ok-add_compare-in-Value : goal.returns-in_ok-add_compare-in-Value
returns-in_ok-add_compare-in-Value c = grind (arith, common_steps)
