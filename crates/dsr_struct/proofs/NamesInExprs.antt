-- Each name of an expression without faults is a fixed field of `Head`.
use Rattle.std.proofs.Common.{◌≡◌, ℕ, List, [], Option, None, Some, IfSome, is_none, option_map}
use Rattle.dsr_ir.specs.Exprs.{ExprShape, FixedOf}
use Rattle.dsr_ir.specs.declared.declarations.Structures.{Structures}
use Rattle.dsr_tree.specs.Trees.{ExprTree, expr_tree, MoreTermTrees, no_terms, more_terms, TermTree, term_tree, MoreFactorTrees, no_factors, more_factors, FactorTree, number_tree, name_tree, group_tree}
use Rattle.dsr_tree.specs.declared.faults.Condition.TheVariants as conditions
use Rattle.dsr_tree.specs.declared.tree.PlacedName.{PlacedName}
use Rattle.dsr_tree.specs.declared.tree.ProductSign.{ProductSign}
use Rattle.dsr_tree.specs.declared.tree.ProductSign.TheVariants as product_signs
use Rattle.dsr_tree.specs.declared.tree.SumSign.{SumSign}
use Rattle.dsr_tree.specs.declared.tree.SumSign.TheVariants as sum_signs
use Rattle.dsr_language_theory.specs.Declarations.{unknown_name, expr_faults, more_terms_faults, term_faults, more_factors_faults, factor_faults, maybe_expr_faults}
use Rattle.dsr_meaning.specs.Typed.{IsTypedExpr}
use Rattle.dsr_language_theory.specs.Tables.{number_in, sum_of, product_of, typed_expr, typed_sum, typed_term, typed_product, typed_factor}
use Rattle.dsr_meaning.proofs.Empty.{both_empty}
use Rattle.dsr_language_theory.proofs.Absent.{when_absent}
use Rattle.dsr_struct.proofs.Found.{known_has}

-- what holds of all numbers for which names stand holds of that of a name without fault
pub number_has : (number : List ℕ → Option ℕ) (P : ℕ → Type 0) (q : PlacedName) → IfSome (number q.name) P → unknown_name number q ≡ [] → P (number_in number q)
number_has number P q if_some e = known_has (number q.name) P (when_absent (is_none (number q.name)) conditions.UnknownName q.place e) if_some

module _ (base : Structures) (fixed : List ℕ → Option ℕ) (are_fixed : (q : List ℕ) → IfSome (fixed q) (λ k. IsTypedExpr base (FixedOf k))) where
  sum_of_is_typed : (sign : SumSign) (left right : ExprShape) → IsTypedExpr base left → IsTypedExpr base right → IsTypedExpr base (sum_of sign left right)
  sum_of_is_typed sum_signs.Plus left right l r = (l, r)
  sum_of_is_typed sum_signs.Minus left right l r = (l, r)

  product_of_is_typed : (sign : ProductSign) (left right : ExprShape) → IsTypedExpr base left → IsTypedExpr base right → IsTypedExpr base (product_of sign left right)
  product_of_is_typed product_signs.Times left right l r = (l, r)
  product_of_is_typed product_signs.Over left right l r = (l, r)

  mutual
    pub expr_is_typed : (e : ExprTree) → expr_faults fixed e ≡ [] → IsTypedExpr base (typed_expr fixed e)
    expr_is_typed (expr_tree first rest) h =
        let both = both_empty (term_faults fixed first) (more_terms_faults fixed rest) h in
        sum_is_typed (typed_term fixed first) rest (term_is_typed first both.0) both.1

    sum_is_typed : (left : ExprShape) (rest : MoreTermTrees) → IsTypedExpr base left → more_terms_faults fixed rest ≡ [] → IsTypedExpr base (typed_sum fixed left rest)
    sum_is_typed left no_terms l h = l
    sum_is_typed left (more_terms sign term rest) l h =
        let both = both_empty (term_faults fixed term) (more_terms_faults fixed rest) h in
        sum_is_typed (sum_of sign left (typed_term fixed term)) rest (sum_of_is_typed sign left (typed_term fixed term) l (term_is_typed term both.0)) both.1

    term_is_typed : (t : TermTree) → term_faults fixed t ≡ [] → IsTypedExpr base (typed_term fixed t)
    term_is_typed (term_tree first rest) h =
        let both = both_empty (factor_faults fixed first) (more_factors_faults fixed rest) h in
        product_is_typed (typed_factor fixed first) rest (factor_is_typed first both.0) both.1

    product_is_typed : (left : ExprShape) (rest : MoreFactorTrees) → IsTypedExpr base left → more_factors_faults fixed rest ≡ [] → IsTypedExpr base (typed_product fixed left rest)
    product_is_typed left no_factors l h = l
    product_is_typed left (more_factors sign factor rest) l h =
        let both = both_empty (factor_faults fixed factor) (more_factors_faults fixed rest) h in
        product_is_typed (product_of sign left (typed_factor fixed factor)) rest (product_of_is_typed sign left (typed_factor fixed factor) l (factor_is_typed factor both.0)) both.1

    factor_is_typed : (f : FactorTree) → factor_faults fixed f ≡ [] → IsTypedExpr base (typed_factor fixed f)
    factor_is_typed (number_tree number) h = tt
    factor_is_typed (name_tree q) h = number_has fixed (λ k. IsTypedExpr base (FixedOf k)) q (are_fixed q.name) h
    factor_is_typed (group_tree place inner) h = expr_is_typed inner h

  -- those of an expression that may be left out
  pub maybe_is_typed : (o : Option ExprTree) → maybe_expr_faults fixed o ≡ [] → IfSome (option_map (typed_expr fixed) o) (IsTypedExpr base)
  maybe_is_typed None h = tt
  maybe_is_typed (Some e) h = expr_is_typed e h
