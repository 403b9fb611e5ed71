-- The phrase of an expression, a formula or their parts, by the lists in it.
use Rattle.std.proofs.Common.{◌≡◌, List, [], ◌∷◌, map, Vec, refl, ap, sym, ◌∙◌}
use Rattle.std.specs.declared.alloc.Global.{Global}
use Rattle.dsr_tree.specs.declared.tree.Expr.{Expr, out-Expr, is-Expr', Row_of-MoreTerm, end_of-MoreTerm, more_of-MoreTerm, items-the_row-MoreTerm, items_hidden-the_row-MoreTerm-0}
use Rattle.dsr_tree.specs.declared.tree.Factor.TheBlock.{hidden-the_row-MoreTerm-0, hidden-the_row-MoreFactor-1}
use Rattle.dsr_tree.specs.declared.tree.Formula.{Formula, out-Formula, is-Formula', Row_of-Join, end_of-Join, more_of-Join, items-the_row-Join, items_hidden-the_row-Join-1}
use Rattle.dsr_tree.specs.declared.tree.Join.{Join, Row_of-Unit, end_of-Unit, more_of-Unit, items-the_row-Unit, items_shown-the_row-Unit-0, items_hidden-the_row-Unit-0}
use Rattle.dsr_tree.specs.declared.tree.MoreTerm.{MoreTerm, MoreTerm', out-MoreTerm, is-MoreTerm'}
use Rattle.dsr_tree.specs.declared.tree.MoreFactor.{MoreFactor}
use Rattle.dsr_tree.specs.declared.tree.Term2.{Term2, out-Term2, is-Term2', Row_of-MoreFactor, end_of-MoreFactor, more_of-MoreFactor, items-the_row-MoreFactor, items_hidden-the_row-MoreFactor-1}
use Rattle.dsr_tree.specs.declared.tree.Unit.{Unit as UnitOf}
use Rattle.dsr_tree.specs.declared.tree.Unit.TheBlock.{hidden-the_row-Unit-0, hidden-the_row-Join-1}
use Rattle.dsr_tree.specs.Trees.{JoinTree, JoinTrees, UnitTree, join_tree, more_joins, more_units, in_joins, in_units, formula_shape, joins_shape, join_shape, units_shape, unit_shape, expr_shape, terms_shape, term_shape, factors_shape, factor_shape, more_term_shape, more_factor_shape}
use Rattle.dsr_syntax_theory.specs.Phrases.{◌▸◌, in_turn}
use Rattle.dsr_syntax_theory.specs.TreeTexts.{formula_text, joins_text, join_text, units_text, unit_text, expr_text, more_terms_text, term2_text, more_factors_text, factor_text, more_term_text, more_factor_text, sum_text, product_text}
use Rattle.dsr_print.specs.Writing.{behind_or, behind_and}

terms_row : {n : _} (row : Row_of-MoreTerm n) → more_terms_text (terms_shape row) ≡ in_turn more_term_text (map more_term_shape (items-the_row-MoreTerm n row))
terms_row end_of-MoreTerm = refl
terms_row (more_of-MoreTerm (MoreTerm' sign term) rest) = ap (λ p. (sum_text sign ▸ term2_text (term_shape term)) ▸ p) (terms_row rest)

terms_list : (v : Vec MoreTerm Global) → more_terms_text (terms_shape (hidden-the_row-MoreTerm-0 v)) ≡ in_turn more_term_text (map more_term_shape v.items)
terms_list v = terms_row (hidden-the_row-MoreTerm-0 v) ∙ ap (λ xs. in_turn more_term_text (map more_term_shape xs)) (items_hidden-the_row-MoreTerm-0 v)

factors_row : {n : _} (row : Row_of-MoreFactor n) → more_factors_text (factors_shape row) ≡ in_turn more_factor_text (map more_factor_shape (items-the_row-MoreFactor n row))
factors_row end_of-MoreFactor = refl
factors_row (more_of-MoreFactor sign factor rest) = ap (λ p. (product_text sign ▸ factor_text (factor_shape factor)) ▸ p) (factors_row rest)

factors_list : (v : Vec MoreFactor Global) → more_factors_text (factors_shape (hidden-the_row-MoreFactor-1 v)) ≡ in_turn more_factor_text (map more_factor_shape v.items)
factors_list v = factors_row (hidden-the_row-MoreFactor-1 v) ∙ ap (λ xs. in_turn more_factor_text (map more_factor_shape xs)) (items_hidden-the_row-MoreFactor-1 v)

pub expr_is : (e : Expr) → expr_text (expr_shape e) ≡ term2_text (term_shape (out-Expr e).first) ▸ in_turn more_term_text (map more_term_shape (out-Expr e).rest.items)
expr_is e = ap (λ x. expr_text (expr_shape x)) (is-Expr' e) ∙ ap (λ p. term2_text (term_shape (out-Expr e).first) ▸ p) (terms_list (out-Expr e).rest)

pub term_is : (t : Term2) → term2_text (term_shape t) ≡ factor_text (factor_shape (out-Term2 t).first) ▸ in_turn more_factor_text (map more_factor_shape (out-Term2 t).rest.items)
term_is t = ap (λ x. term2_text (term_shape x)) (is-Term2' t) ∙ ap (λ p. factor_text (factor_shape (out-Term2 t).first) ▸ p) (factors_list (out-Term2 t).rest)

pub more_term_is : (m : MoreTerm) → more_term_text (more_term_shape m) ≡ sum_text (out-MoreTerm m).sign ▸ term2_text (term_shape (out-MoreTerm m).term)
more_term_is m = ap (λ x. more_term_text (more_term_shape x)) (is-MoreTerm' m)

units_row : {n : _} (row : Row_of-Unit n) → units_shape row ≡ in_units (map unit_shape (items-the_row-Unit n row))
units_row end_of-Unit = refl
units_row (more_of-Unit unit rest) = ap (more_units (unit_shape unit)) (units_row rest)

units_list : (v : Vec UnitOf Global) → units_shape (hidden-the_row-Unit-0 v) ≡ in_units (map unit_shape v.items)
units_list v = units_row (hidden-the_row-Unit-0 v) ∙ ap (λ us. in_units (map unit_shape us)) (items_hidden-the_row-Unit-0 v)

more_same : {j k : JoinTree} {js ks : JoinTrees} → j ≡ k → js ≡ ks → more_joins j js ≡ more_joins k ks
more_same p q = cc

joins_row : {n : _} (row : Row_of-Join n) → joins_shape row ≡ in_joins (map join_shape (items-the_row-Join n row))
joins_row end_of-Join = refl
joins_row (more_of-Join first room units rest) =
    more_same (ap (join_tree (unit_shape first)) (units_row units ∙ ap (λ us. in_units (map unit_shape us)) (sym (items_shown-the_row-Unit-0 room units)))) (joins_row rest)

joins_list : (v : Vec Join Global) → joins_shape (hidden-the_row-Join-1 v) ≡ in_joins (map join_shape v.items)
joins_list v = joins_row (hidden-the_row-Join-1 v) ∙ ap (λ js. in_joins (map join_shape js)) (items_hidden-the_row-Join-1 v)

units_in_turn : (us : List UnitTree) → units_text (in_units us) ≡ in_turn behind_and us
units_in_turn [] = refl
units_in_turn (u ∷ us) = ap (λ p. behind_and u ▸ p) (units_in_turn us)

joins_in_turn : (js : List JoinTree) → joins_text (in_joins js) ≡ in_turn behind_or js
joins_in_turn [] = refl
joins_in_turn (j ∷ js) = ap (λ p. behind_or j ▸ p) (joins_in_turn js)

pub join_is : (j : Join) → join_text (join_shape j) ≡ unit_text (unit_shape j.first) ▸ in_turn behind_and (map unit_shape j.rest.items)
join_is j = ap (λ p. unit_text (unit_shape j.first) ▸ p) (units_in_turn (map unit_shape j.rest.items))

pub formula_is : (f : Formula) → formula_text (formula_shape f) ≡ join_text (join_shape (out-Formula f).first) ▸ in_turn behind_or (map join_shape (out-Formula f).rest.items)
formula_is f =
    ap (λ x. formula_text (formula_shape x)) (is-Formula' f)
    ∙ ap (λ us. join_text (join_tree (unit_shape (out-Formula f).first.first) us) ▸ joins_text (joins_shape (hidden-the_row-Join-1 (out-Formula f).rest))) (units_list (out-Formula f).first.rest)
    ∙ ap (λ js. join_text (join_shape (out-Formula f).first) ▸ joins_text js) (joins_list (out-Formula f).rest)
    ∙ ap (λ p. join_text (join_shape (out-Formula f).first) ▸ p) (joins_in_turn (map join_shape (out-Formula f).rest.items))
