use Rattle.std.proofs.Common.{◌≡◌, map, take}
use Rattle.dsr_ir.specs.Formulas.{formula_shape, in_row}
use Rattle.dsr_language_theory.specs.NormalForms.{row_atoms}
use Rattle.dsr_normal.proofs.atoms.+atoms.Given as goal

abbrev pub invariant-parts_atoms-loop-part : goal.invariant-parts_atoms-loop-part
invariant-parts_atoms-loop-part l = l.atoms.items ≡ row_atoms (in_row (map formula_shape (take l.part-index l.parts)))
