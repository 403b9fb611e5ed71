use Rattle.std.proofs.Common.{arith}
use Rattle.std.proofs.lemmas.Grind.{elements}
use Rattle.dsr_layout.proofs.references.code_of.Goals as goal

pub overflow_mul-result : goal.overflow_mul-result
overflow_mul-result c = grind (arith, elements)

pub overflow_add-result : goal.overflow_add-result
overflow_add-result c = grind (arith, elements)
