-- The shapes in a formula's row are those of its list of parts.
use Rattle.std.proofs.Common.{◌≡◌, map, Vec, refl, ap, ◌∙◌}
use Rattle.std.specs.declared.alloc.Global.{Global}
use Rattle.dsr_ir.specs.declared.formulas.FormulaNode.{FormulaNode, Row_of-FormulaNode, end_of-FormulaNode, more_of-FormulaNode, items-the_row-FormulaNode, items_hidden-the_row-FormulaNode-0}
use Rattle.dsr_ir.specs.declared.formulas.FormulaNode.TheBlock.{hidden-the_row-FormulaNode-0}
use Rattle.dsr_ir.specs.Formulas.{MoreOf, formula_shape, row_shapes, in_row}

row_shapes-items : {n : _} (row : Row_of-FormulaNode n) → row_shapes row ≡ in_row (map formula_shape (items-the_row-FormulaNode n row))
row_shapes-items end_of-FormulaNode = refl
row_shapes-items (more_of-FormulaNode first rest) = ap (MoreOf (formula_shape first)) (row_shapes-items rest)

pub row_shapes-hidden : (v : Vec FormulaNode Global) → row_shapes (hidden-the_row-FormulaNode-0 v) ≡ in_row (map formula_shape v.items)
row_shapes-hidden v = row_shapes-items (hidden-the_row-FormulaNode-0 v) ∙ ap (λ fs. in_row (map formula_shape fs)) (items_hidden-the_row-FormulaNode-0 v)
