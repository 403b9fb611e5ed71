-- The shape of an expression, a formula or their parts, by the lists in it.
use Rattle.std.proofs.Common.{◌≡◌, map, Vec, refl, ap, sym, ◌∙◌}
use Rattle.std.specs.declared.alloc.Global.{Global}
use Rattle.dsr_tree.specs.declared.tree.Expr.{Expr, out-Expr, is-Expr', Row_of-MoreTerm, end_of-MoreTerm, more_of-MoreTerm, items-the_row-MoreTerm, items_hidden-the_row-MoreTerm-0}
use Rattle.dsr_tree.specs.declared.tree.Factor.TheBlock.{hidden-the_row-MoreTerm-0, hidden-the_row-MoreFactor-1}
use Rattle.dsr_tree.specs.declared.tree.Formula.{Formula, out-Formula, is-Formula', Row_of-Join, end_of-Join, more_of-Join, items-the_row-Join, items_hidden-the_row-Join-1}
use Rattle.dsr_tree.specs.declared.tree.Join.{Join, Row_of-Unit, end_of-Unit, more_of-Unit, items-the_row-Unit, items_shown-the_row-Unit-0, items_hidden-the_row-Unit-0}
use Rattle.dsr_tree.specs.declared.tree.MoreFactor.{MoreFactor}
use Rattle.dsr_tree.specs.declared.tree.MoreTerm.{MoreTerm, MoreTerm'}
use Rattle.dsr_tree.specs.declared.tree.Term2.{Term2, out-Term2, is-Term2', Row_of-MoreFactor, end_of-MoreFactor, more_of-MoreFactor, items-the_row-MoreFactor, items_hidden-the_row-MoreFactor-1}
use Rattle.dsr_tree.specs.declared.tree.Unit.{Unit as UnitOf}
use Rattle.dsr_tree.specs.declared.tree.Unit.TheBlock.{hidden-the_row-Unit-0, hidden-the_row-Join-1}
use Rattle.dsr_tree.specs.Trees.{JoinTree, JoinTrees, formula_tree, join_tree, more_joins, more_units, in_joins, in_units, formula_shape, joins_shape, join_shape, units_shape, unit_shape}
use Rattle.dsr_tree.specs.Trees.{expr_tree, term_tree, more_terms, more_factors, in_terms, in_factors, expr_shape, terms_shape, term_shape, factors_shape, factor_shape, more_term_shape, more_factor_shape}

terms_row : {n : _} (row : Row_of-MoreTerm n) → terms_shape row ≡ in_terms (map more_term_shape (items-the_row-MoreTerm n row))
terms_row end_of-MoreTerm = refl
terms_row (more_of-MoreTerm (MoreTerm' sign term) rest) = ap (more_terms sign (term_shape term)) (terms_row rest)

terms_list : (v : Vec MoreTerm Global) → terms_shape (hidden-the_row-MoreTerm-0 v) ≡ in_terms (map more_term_shape v.items)
terms_list v = terms_row (hidden-the_row-MoreTerm-0 v) ∙ ap (λ xs. in_terms (map more_term_shape xs)) (items_hidden-the_row-MoreTerm-0 v)

factors_row : {n : _} (row : Row_of-MoreFactor n) → factors_shape row ≡ in_factors (map more_factor_shape (items-the_row-MoreFactor n row))
factors_row end_of-MoreFactor = refl
factors_row (more_of-MoreFactor sign factor rest) = ap (more_factors sign (factor_shape factor)) (factors_row rest)

factors_list : (v : Vec MoreFactor Global) → factors_shape (hidden-the_row-MoreFactor-1 v) ≡ in_factors (map more_factor_shape v.items)
factors_list v = factors_row (hidden-the_row-MoreFactor-1 v) ∙ ap (λ xs. in_factors (map more_factor_shape xs)) (items_hidden-the_row-MoreFactor-1 v)

pub expr_is : (e : Expr) → expr_shape e ≡ expr_tree (term_shape (out-Expr e).first) (in_terms (map more_term_shape (out-Expr e).rest.items))
expr_is e = ap expr_shape (is-Expr' e) ∙ ap (expr_tree (term_shape (out-Expr e).first)) (terms_list (out-Expr e).rest)

pub term_is : (t : Term2) → term_shape t ≡ term_tree (factor_shape (out-Term2 t).first) (in_factors (map more_factor_shape (out-Term2 t).rest.items))
term_is t = ap term_shape (is-Term2' t) ∙ ap (term_tree (factor_shape (out-Term2 t).first)) (factors_list (out-Term2 t).rest)

units_row : {n : _} (row : Row_of-Unit n) → units_shape row ≡ in_units (map unit_shape (items-the_row-Unit n row))
units_row end_of-Unit = refl
units_row (more_of-Unit unit rest) = ap (more_units (unit_shape unit)) (units_row rest)

units_list : (v : Vec UnitOf Global) → units_shape (hidden-the_row-Unit-0 v) ≡ in_units (map unit_shape v.items)
units_list v = units_row (hidden-the_row-Unit-0 v) ∙ ap (λ us. in_units (map unit_shape us)) (items_hidden-the_row-Unit-0 v)

more_same : {j k : JoinTree} {js ks : JoinTrees} → j ≡ k → js ≡ ks → more_joins j js ≡ more_joins k ks
more_same p q = cc

joins_row : {n : _} (row : Row_of-Join n) → joins_shape row ≡ in_joins (map join_shape (items-the_row-Join n row))
joins_row end_of-Join = refl
joins_row (more_of-Join first room units rest) =
    more_same (ap (join_tree (unit_shape first)) (units_row units ∙ ap (λ us. in_units (map unit_shape us)) (sym (items_shown-the_row-Unit-0 room units)))) (joins_row rest)

joins_list : (v : Vec Join Global) → joins_shape (hidden-the_row-Join-1 v) ≡ in_joins (map join_shape v.items)
joins_list v = joins_row (hidden-the_row-Join-1 v) ∙ ap (λ js. in_joins (map join_shape js)) (items_hidden-the_row-Join-1 v)

pub formula_is : (f : Formula) → formula_shape f ≡ formula_tree (join_shape (out-Formula f).first) (in_joins (map join_shape (out-Formula f).rest.items))
formula_is f =
    ap formula_shape (is-Formula' f)
    ∙ ap (λ us. formula_tree (join_tree (unit_shape (out-Formula f).first.first) us) (joins_shape (hidden-the_row-Join-1 (out-Formula f).rest))) (units_list (out-Formula f).first.rest)
    ∙ ap (formula_tree (join_shape (out-Formula f).first)) (joins_list (out-Formula f).rest)
