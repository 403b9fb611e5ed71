use Rattle.std.proofs.Common.{arith}
use Rattle.std.proofs.lemmas.Grind.{elements}
use Rattle.dsr_ir.specs.declared.updates.Symbol.TheVariants as symbols
use Rattle.dsr_facts.proofs.memberships.has_rules.Goals as goal

pub returns : goal.returns
returns c = grind (arith, elements)
