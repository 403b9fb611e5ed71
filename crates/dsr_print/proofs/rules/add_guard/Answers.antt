use Rattle.std.proofs.Common.{arith}
use Rattle.std.proofs.lemmas.Grind.{common_steps}
use Rattle.dsr_print.proofs.rules.add_guard.Goals as goal

pub returns-in_ok-add_path-in-Tested : goal.returns-in_ok-add_path-in-Tested
returns-in_ok-add_path-in-Tested c = grind (arith, common_steps)

pub returns-in_ok-add_compare-in-Compared : goal.returns-in_ok-add_compare-in-Compared
returns-in_ok-add_compare-in-Compared c = grind (arith, common_steps)
