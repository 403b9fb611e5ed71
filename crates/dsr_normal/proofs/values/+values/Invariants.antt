use Rattle.std.proofs.Common.{◌≡◌, map, drop}
use Rattle.dsr_ir.specs.Formulas.{formula_shape, in_row}
use Rattle.dsr_language_theory.specs.NormalForms.{row_negates}
use Rattle.dsr_normal.proofs.values.+values.Given as goal

abbrev pub invariant-any_negates-loop-part : goal.invariant-any_negates-loop-part
invariant-any_negates-loop-part l = row_negates l.under_not (in_row (map formula_shape (drop l.part-index l.parts))) ≡ row_negates l.under_not (in_row (map formula_shape l.parts))
