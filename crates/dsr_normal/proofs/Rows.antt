-- The shapes in a formula's row are those of its list of parts, and one part more.
use Rattle.std.proofs.Common.{◌≡◌, ◌<◌, ◌+◌, ℕ, Bool, List, [], ◌∷◌, ◌++◌, map, take, length, get_or, Vec, ap, sym, ◌∙◌}
use Rattle.std.specs.declared.alloc.Global.{Global}
use Rattle.std.proofs.lemmas.List.{append_assoc, append-nil, map-append, take_more}
use Rattle.dsr_ir.proofs.Rows.{row_shapes-hidden}
use Rattle.dsr_ir.specs.declared.formulas.FormulaNode.{FormulaNode}
use Rattle.dsr_ir.specs.declared.formulas.FormulaNode.TheViews as views
use Rattle.dsr_ir.specs.Formulas.{FormulaShape, AnyOf, EveryOf, formula_shape, in_row}
use Rattle.dsr_language_theory.specs.NormalForms.{distributed, any_row, every_row, joined, atoms_of, row_atoms}
use Rattle.dsr_normal.proofs.Joining.{joined_assoc, joined_one, joined_by_one}

any_more : (n g : Bool) (xs : List FormulaShape) (x : FormulaShape) → any_row n g (in_row (xs ++ (x ∷ []))) ≡ any_row n g (in_row xs) ++ distributed n g x
any_more n g [] x = append-nil (distributed n g x)
any_more n g (y ∷ ys) x = ap (λ t. distributed n g y ++ t) (any_more n g ys x) ∙ sym (append_assoc (distributed n g y) (any_row n g (in_row ys)) (distributed n g x))

every_more : (n g : Bool) (xs : List FormulaShape) (x : FormulaShape) → every_row n g (in_row (xs ++ (x ∷ []))) ≡ joined (every_row n g (in_row xs)) (distributed n g x)
every_more n g [] x = joined_by_one (distributed n g x) ∙ sym (joined_one (distributed n g x))
every_more n g (y ∷ ys) x = ap (λ t. joined (distributed n g y) t) (every_more n g ys x) ∙ sym (joined_assoc (distributed n g y) (every_row n g (in_row ys)) (distributed n g x))

atoms_more : (xs : List FormulaShape) (x : FormulaShape) → row_atoms (in_row (xs ++ (x ∷ []))) ≡ row_atoms (in_row xs) ++ atoms_of x
atoms_more [] x = append-nil (atoms_of x)
atoms_more (y ∷ ys) x = ap (λ t. atoms_of y ++ t) (atoms_more ys x) ∙ sym (append_assoc (atoms_of y) (row_atoms (in_row ys)) (atoms_of x))

taken : (parts : List FormulaNode) (i : ℕ) (part : FormulaNode) → i < length parts → part ≡ get_or parts i part → map formula_shape (take (i + 1) parts) ≡ map formula_shape (take i parts) ++ (formula_shape part ∷ [])
taken parts i part lt is =
    ap (map formula_shape) (take_more parts i part lt)
    ∙ map-append formula_shape (take i parts) (get_or parts i part ∷ [])
    ∙ ap (λ p. map formula_shape (take i parts) ++ (formula_shape p ∷ [])) (sym is)

-- a loop over the parts takes one part more
pub any_step : (n g : Bool) (parts : List FormulaNode) (i : ℕ) (part : FormulaNode) → i < length parts → part ≡ get_or parts i part → any_row n g (in_row (map formula_shape (take (i + 1) parts))) ≡ any_row n g (in_row (map formula_shape (take i parts))) ++ distributed n g (formula_shape part)
any_step n g parts i part lt is = ap (λ t. any_row n g (in_row t)) (taken parts i part lt is) ∙ any_more n g (map formula_shape (take i parts)) (formula_shape part)

pub every_step : (n g : Bool) (parts : List FormulaNode) (i : ℕ) (part : FormulaNode) → i < length parts → part ≡ get_or parts i part → every_row n g (in_row (map formula_shape (take (i + 1) parts))) ≡ joined (every_row n g (in_row (map formula_shape (take i parts)))) (distributed n g (formula_shape part))
every_step n g parts i part lt is = ap (λ t. every_row n g (in_row t)) (taken parts i part lt is) ∙ every_more n g (map formula_shape (take i parts)) (formula_shape part)

pub atoms_step : (parts : List FormulaNode) (i : ℕ) (part : FormulaNode) → i < length parts → part ≡ get_or parts i part → row_atoms (in_row (map formula_shape (take (i + 1) parts))) ≡ row_atoms (in_row (map formula_shape (take i parts))) ++ atoms_of (formula_shape part)
atoms_step parts i part lt is = ap (λ t. row_atoms (in_row t)) (taken parts i part lt is) ∙ atoms_more (map formula_shape (take i parts)) (formula_shape part)

-- the shape of a formula with a list of parts
pub any_shape : (f : FormulaNode) (v : Vec FormulaNode Global) (parts : List FormulaNode) → f ≡ views.Any v → parts ≡ v.items → formula_shape f ≡ AnyOf (in_row (map formula_shape parts))
any_shape f v parts is same = ap formula_shape is ∙ ap AnyOf (row_shapes-hidden v) ∙ ap (λ ps. AnyOf (in_row (map formula_shape ps))) (sym same)

pub every_shape : (f : FormulaNode) (v : Vec FormulaNode Global) (parts : List FormulaNode) → f ≡ views.Every v → parts ≡ v.items → formula_shape f ≡ EveryOf (in_row (map formula_shape parts))
every_shape f v parts is same = ap formula_shape is ∙ ap EveryOf (row_shapes-hidden v) ∙ ap (λ ps. EveryOf (in_row (map formula_shape ps))) (sym same)
