use Rattle.std.proofs.Common.{◌≡◌, map, take}
use Rattle.dsr_ir.specs.Formulas.{formula_shape, in_row}
use Rattle.dsr_language_theory.specs.NormalForms.{any_row, every_row}
use Rattle.dsr_normal.specs.Sizes.{size_of}
use Rattle.dsr_normal.proofs.sizes.+sizes.Given as goal

abbrev pub invariant-any_size-loop-part : goal.invariant-any_size-loop-part
invariant-any_size-loop-part l = l.size ≡ size_of (any_row l.negated l.given (in_row (map formula_shape (take l.part-index l.parts))))

abbrev pub invariant-every_size-loop-part : goal.invariant-every_size-loop-part
invariant-every_size-loop-part l = l.size ≡ size_of (every_row l.negated l.given (in_row (map formula_shape (take l.part-index l.parts))))
