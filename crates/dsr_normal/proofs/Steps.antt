-- The size of the normal form of one part more.
use Rattle.std.proofs.Common.{◌≡◌, ◌<◌, ◌+◌, ℕ, Bool, List, map, take, length, get_or, ap, sym, ◌∙◌}
use Rattle.dsr_ir.specs.declared.formulas.FormulaNode.{FormulaNode}
use Rattle.dsr_ir.specs.Formulas.{formula_shape, in_row}
use Rattle.dsr_language_theory.specs.NormalForms.{distributed, any_row, every_row}
use Rattle.dsr_normal.specs.Sizes.{size_of, added, multiplied}
use Rattle.dsr_normal.proofs.Rows.{any_step, every_step}
use Rattle.dsr_normal.proofs.Sizing.{size_added, size_multiplied}

pub any_size_step : (n g : Bool) (parts : List FormulaNode) (i : ℕ) (part : FormulaNode) → i < length parts → part ≡ get_or parts i part → added (size_of (any_row n g (in_row (map formula_shape (take i parts))))) (size_of (distributed n g (formula_shape part))) ≡ size_of (any_row n g (in_row (map formula_shape (take (i + 1) parts))))
any_size_step n g parts i part lt is = sym (ap size_of (any_step n g parts i part lt is) ∙ size_added (any_row n g (in_row (map formula_shape (take i parts)))) (distributed n g (formula_shape part)))

pub every_size_step : (n g : Bool) (parts : List FormulaNode) (i : ℕ) (part : FormulaNode) → i < length parts → part ≡ get_or parts i part → multiplied (size_of (every_row n g (in_row (map formula_shape (take i parts))))) (size_of (distributed n g (formula_shape part))) ≡ size_of (every_row n g (in_row (map formula_shape (take (i + 1) parts))))
every_size_step n g parts i part lt is = sym (ap size_of (every_step n g parts i part lt is) ∙ size_multiplied (every_row n g (in_row (map formula_shape (take i parts)))) (distributed n g (formula_shape part)))
