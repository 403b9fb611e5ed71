use Rattle.std.proofs.Common.{◌≡◌, map, take}
use Rattle.dsr_ir.specs.Formulas.{formula_shape, in_row}
use Rattle.dsr_language_theory.specs.NormalForms.{any_row, every_row}
use Rattle.dsr_normal.specs.Literals.{literals_of}
use Rattle.dsr_normal.proofs.building.+building.Given as goal

abbrev pub invariant-any_conjs-loop-part : goal.invariant-any_conjs-loop-part
invariant-any_conjs-loop-part l = literals_of l.conjs.items ≡ any_row l.negated l.given (in_row (map formula_shape (take l.part-index l.parts)))

abbrev pub invariant-every_conjs-loop-part : goal.invariant-every_conjs-loop-part
invariant-every_conjs-loop-part l = literals_of l.conjs.items ≡ every_row l.negated l.given (in_row (map formula_shape (take l.part-index l.parts)))
