use Rattle.std.proofs.lemmas.Grind.{elements}
use Rattle.std.proofs.Common.{arith}
use Rattle.dsr_ir.specs.declared.constraints.Quant.TheVariants as quants
use Rattle.dsr_truth.specs.Only as said
use Rattle.dsr_truth.proofs.violated.violations.Goals as goal

pub constraint_violations-requires-clause-declared :
    goal.constraint_violations-requires-clause-declared
constraint_violations-requires-clause-declared c = grind (arith, elements)

pub returns : goal.returns
returns c = grind (arith, elements)
