-- Steps over the terms of an expression and the factors of a term.
use Rattle.std.proofs.Common.{◌≡◌, ◌<◌, ◌+◌, ℕ, Bool, ◌&&◌, nat_eq, vec_len, List, [], ◌∷◌, ◌++◌, map, take, length, get_or, Option, refl, sym, ap, ◌∙◌, append-nil, append_assoc}
use Rattle.std.proofs.Math.Dec.{eqb-suc-zero}
use Rattle.std.proofs.lemmas.List.{map_more}
use Rattle.dsr_tree.specs.declared.faults.Fault.{Fault}
use Rattle.dsr_tree.specs.declared.tree.Expr.{Expr, out-Expr}
use Rattle.dsr_tree.specs.declared.tree.MoreFactor.{MoreFactor}
use Rattle.dsr_tree.specs.declared.tree.MoreTerm.{MoreTerm, out-MoreTerm, is-MoreTerm'}
use Rattle.dsr_tree.specs.declared.tree.Term2.{Term2, out-Term2}
use Rattle.dsr_ir.specs.Exprs.{ExprShape}
use Rattle.dsr_tree.specs.Trees.{TermTree, expr_tree, term_tree, FactorTree, MoreTermTree, MoreFactorTree, in_terms, in_factors, expr_shape, term_shape, factor_shape, more_term_shape, more_factor_shape}
use Rattle.dsr_tree.proofs.TreeRows.{expr_is, term_is}
use Rattle.dsr_language_theory.specs.Declarations.{more_terms_faults, term_faults, more_factors_faults, factor_faults, is_number, is_number_term, is_number_factor}
use Rattle.dsr_language_theory.specs.Tables.{sum_of, product_of, typed_expr, typed_sum, typed_term, typed_product, typed_factor}
use Rattle.dsr_names.specs.Telling.{Finds}
use Rattle.dsr_names.proofs.Finding.{finds_same, finds_then}

-- the shape of a term behind its sign, by its two parts
abbrev parts_of : MoreTerm → MoreTermTree
parts_of x = record { sign = (out-MoreTerm x).sign; term = term_shape (out-MoreTerm x).term }

-- the terms up to one with that one are one more
terms_more : (xs : List MoreTerm) (i : ℕ) (x : MoreTerm) → i < length xs → x ≡ get_or xs i x → map more_term_shape (take (i + 1) xs) ≡ map more_term_shape (take i xs) ++ parts_of x ∷ []
terms_more xs i x below is = map_more more_term_shape xs i x below ∙ ap (λ y. map more_term_shape (take i xs) ++ more_term_shape y ∷ []) (sym is ∙ is-MoreTerm' x)

-- the same for factors
factors_more : (xs : List MoreFactor) (i : ℕ) (x : MoreFactor) → i < length xs → x ≡ get_or xs i x → map more_factor_shape (take (i + 1) xs) ≡ map more_factor_shape (take i xs) ++ more_factor_shape x ∷ []
factors_more xs i x below is = map_more more_factor_shape xs i x below ∙ ap (λ y. map more_factor_shape (take i xs) ++ more_factor_shape y ∷ []) (sym is)

module _ (fixed : List ℕ → Option ℕ) where
  -- the faults of the last term stand behind those of the others
  faults_of_terms : (ms : List MoreTermTree) (m : MoreTermTree) → more_terms_faults fixed (in_terms (ms ++ m ∷ [])) ≡ more_terms_faults fixed (in_terms ms) ++ term_faults fixed m.term
  faults_of_terms [] m = append-nil (term_faults fixed m.term)
  faults_of_terms (n ∷ ms) m = ap (λ fs. term_faults fixed n.term ++ fs) (faults_of_terms ms m) ∙ sym (append_assoc (term_faults fixed n.term) (more_terms_faults fixed (in_terms ms)) (term_faults fixed m.term))

  -- the same for factors
  faults_of_factors : (ms : List MoreFactorTree) (m : MoreFactorTree) → more_factors_faults fixed (in_factors (ms ++ m ∷ [])) ≡ more_factors_faults fixed (in_factors ms) ++ factor_faults fixed m.factor
  faults_of_factors [] m = append-nil (factor_faults fixed m.factor)
  faults_of_factors (n ∷ ms) m = ap (λ fs. factor_faults fixed n.factor ++ fs) (faults_of_factors ms m) ∙ sym (append_assoc (factor_faults fixed n.factor) (more_factors_faults fixed (in_factors ms)) (factor_faults fixed m.factor))

  -- the faults of the terms up to one were found, and then those of that one
  pub finds_term : {a b c : Option Fault} (xs : List MoreTerm) (i : ℕ) (x : MoreTerm) → i < length xs → x ≡ get_or xs i x → Finds (more_terms_faults fixed (in_terms (map more_term_shape (take i xs)))) a b → Finds (term_faults fixed (term_shape (out-MoreTerm x).term)) b c → Finds (more_terms_faults fixed (in_terms (map more_term_shape (take (i + 1) xs)))) a c
  finds_term xs i x below is p q =
      finds_same (sym (ap (λ ms. more_terms_faults fixed (in_terms ms)) (terms_more xs i x below is) ∙ faults_of_terms (map more_term_shape (take i xs)) (parts_of x))) (finds_then p q)

  -- the same for factors
  pub finds_factor : {a b c : Option Fault} (xs : List MoreFactor) (i : ℕ) (x : MoreFactor) → i < length xs → x ≡ get_or xs i x → Finds (more_factors_faults fixed (in_factors (map more_factor_shape (take i xs)))) a b → Finds (factor_faults fixed (factor_shape x.factor)) b c → Finds (more_factors_faults fixed (in_factors (map more_factor_shape (take (i + 1) xs)))) a c
  finds_factor xs i x below is p q =
      finds_same (sym (ap (λ ms. more_factors_faults fixed (in_factors ms)) (factors_more xs i x below is) ∙ faults_of_factors (map more_factor_shape (take i xs)) (more_factor_shape x))) (finds_then p q)

  -- the last term is added to the sum of the others
  sum_of_terms : (left : ExprShape) (ms : List MoreTermTree) (m : MoreTermTree) → typed_sum fixed left (in_terms (ms ++ m ∷ [])) ≡ sum_of m.sign (typed_sum fixed left (in_terms ms)) (typed_term fixed m.term)
  sum_of_terms left [] m = refl
  sum_of_terms left (n ∷ ms) m = sum_of_terms (sum_of n.sign left (typed_term fixed n.term)) ms m

  -- the same for factors and their product
  product_of_factors : (left : ExprShape) (ms : List MoreFactorTree) (m : MoreFactorTree) → typed_product fixed left (in_factors (ms ++ m ∷ [])) ≡ product_of m.sign (typed_product fixed left (in_factors ms)) (typed_factor fixed m.factor)
  product_of_factors left [] m = refl
  product_of_factors left (n ∷ ms) m = product_of_factors (product_of n.sign left (typed_factor fixed n.factor)) ms m

  -- the sum of the terms up to one with that one is the sum of one more
  pub sum_next : {sum term : ExprShape} (left : ExprShape) (xs : List MoreTerm) (i : ℕ) (x : MoreTerm) → i < length xs → x ≡ get_or xs i x → sum ≡ typed_sum fixed left (in_terms (map more_term_shape (take i xs))) → term ≡ typed_term fixed (term_shape (out-MoreTerm x).term) → sum_of (out-MoreTerm x).sign sum term ≡ typed_sum fixed left (in_terms (map more_term_shape (take (i + 1) xs)))
  sum_next left xs i x below is p q =
      (λ k. sum_of (out-MoreTerm x).sign (p k) (q k)) ∙ sym (ap (λ ms. typed_sum fixed left (in_terms ms)) (terms_more xs i x below is) ∙ sum_of_terms left (map more_term_shape (take i xs)) (parts_of x))

  -- the same for factors and their product
  pub product_next : {product factor : ExprShape} (left : ExprShape) (xs : List MoreFactor) (i : ℕ) (x : MoreFactor) → i < length xs → x ≡ get_or xs i x → product ≡ typed_product fixed left (in_factors (map more_factor_shape (take i xs))) → factor ≡ typed_factor fixed (factor_shape x.factor) → product_of x.sign product factor ≡ typed_product fixed left (in_factors (map more_factor_shape (take (i + 1) xs)))
  product_next left xs i x below is p q =
      (λ k. product_of x.sign (p k) (q k)) ∙ sym (ap (λ ms. typed_product fixed left (in_factors ms)) (factors_more xs i x below is) ∙ product_of_factors left (map more_factor_shape (take i xs)) (more_factor_shape x))

  -- an expression is the sum of its first term and the others
  pub expr_typed : {first : ExprShape} {rest : List MoreTerm} (e : Expr) → first ≡ typed_term fixed (term_shape (out-Expr e).first) → rest ≡ (out-Expr e).rest.items → typed_sum fixed first (in_terms (map more_term_shape rest)) ≡ typed_expr fixed (expr_shape e)
  expr_typed e p q = (λ k. typed_sum fixed (p k) (in_terms (map more_term_shape (q k)))) ∙ sym (ap (typed_expr fixed) (expr_is e))

  -- the same for a term and its factors
  pub term_typed : {first : ExprShape} {rest : List MoreFactor} (t : Term2) → first ≡ typed_factor fixed (factor_shape (out-Term2 t).first) → rest ≡ (out-Term2 t).rest.items → typed_product fixed first (in_factors (map more_factor_shape rest)) ≡ typed_term fixed (term_shape t)
  term_typed t p q = (λ k. typed_product fixed (p k) (in_factors (map more_factor_shape (q k)))) ∙ sym (ap (typed_term fixed) (term_is t))

-- a term with a list of others is a number where the list is empty and the term is one
number_of_terms : (t : TermTree) (ms : List MoreTerm) → is_number (expr_tree t (in_terms (map more_term_shape ms))) ≡ (nat_eq (length ms) 0 && is_number_term t)
number_of_terms t [] = refl
number_of_terms t (m ∷ ms) = sym (ap (λ b. b && is_number_term t) (eqb-suc-zero (length ms)))

-- the same for factors
number_of_factors : (f : FactorTree) (ms : List MoreFactor) → is_number_term (term_tree f (in_factors (map more_factor_shape ms))) ≡ (nat_eq (length ms) 0 && is_number_factor f)
number_of_factors f [] = refl
number_of_factors f (m ∷ ms) = sym (ap (λ b. b && is_number_factor f) (eqb-suc-zero (length ms)))

-- an expression is a number where it has one term alone, and that is a number
pub number_is : {one : Bool} (e : Expr) → one ≡ nat_eq (vec_len (out-Expr e).rest) 0 → is_number (expr_shape e) ≡ (one && is_number_term (term_shape (out-Expr e).first))
number_is e p = ap is_number (expr_is e) ∙ number_of_terms (term_shape (out-Expr e).first) (out-Expr e).rest.items ∙ ap (λ b. b && is_number_term (term_shape (out-Expr e).first)) (sym (p ∙ ap (λ n. nat_eq n 0) (out-Expr e).rest.ok.0))

-- the same for a term and its factors
pub number_term_is : {one : Bool} (t : Term2) → one ≡ nat_eq (vec_len (out-Term2 t).rest) 0 → is_number_term (term_shape t) ≡ (one && is_number_factor (factor_shape (out-Term2 t).first))
number_term_is t p = ap is_number_term (term_is t) ∙ number_of_factors (factor_shape (out-Term2 t).first) (out-Term2 t).rest.items ∙ ap (λ b. b && is_number_factor (factor_shape (out-Term2 t).first)) (sym (p ∙ ap (λ n. nat_eq n 0) (out-Term2 t).rest.ok.0))
