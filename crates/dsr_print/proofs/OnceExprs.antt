-- The tokens of an expression determine it but for places.
use Rattle.std.proofs.Common.{◌≡◌, List, ◌∷◌, Bool, true, false, refl, sym, ap}
use Rattle.dsr_tree.specs.Trees.{ExprTree, expr_tree, MoreTermTrees, no_terms, more_terms, term_tree, no_factors, more_factors, number_tree, name_tree, group_tree}
use Rattle.dsr_tree.specs.declared.tokens.Sign.TheVariants as sign
use Rattle.dsr_tree.specs.declared.tokens.Token.{Token}
use Rattle.dsr_tree.specs.declared.tokens.Token.TheVariants as token
use Rattle.dsr_tree.specs.declared.tree.ProductSign.{ProductSign}
use Rattle.dsr_tree.specs.declared.tree.ProductSign.TheVariants as products
use Rattle.dsr_tree.specs.declared.tree.SumSign.{SumSign}
use Rattle.dsr_tree.specs.declared.tree.SumSign.TheVariants as sums
use Rattle.dsr_syntax_theory.specs.Bare.{bare_name, bare_number, bare_expr, bare_more_terms, bare_term2, bare_more_factors, bare_factor}
use Rattle.dsr_syntax_theory.specs.TreeTexts.{name_text, number_text, sum_text, product_text, expr_text, more_terms_text, term2_text, more_factors_text, factor_text}
use Rattle.dsr_print.proofs.After.{after, begins, clash, Once, OnceBefore, either, not_first, rest}

pub name_once : Once name_text bare_name
name_once a b r s e = (cc, cc)

pub number_once : Once number_text bare_number
number_once a b r s e = (cc, cc)

sum_once : Once sum_text (λ x. x)
sum_once sums.Plus sums.Plus r s e = (refl, cc)
sum_once sums.Minus sums.Minus r s e = (refl, cc)
sum_once sums.Plus sums.Minus r s e = absurd cc
sum_once sums.Minus sums.Plus r s e = absurd cc

product_once : Once product_text (λ x. x)
product_once products.Times products.Times r s e = (refl, cc)
product_once products.Over products.Over r s e = (refl, cc)
product_once products.Times products.Over r s e = absurd cc
product_once products.Over products.Times r s e = absurd cc

-- the signs behind a factor, and those behind a factor or a term
abbrev pub is_product : Token → Bool
is_product (token.Sign sign.Times) = true
is_product (token.Sign sign.Over) = true
is_product _ = false

abbrev pub is_sum : Token → Bool
is_sum (token.Sign sign.Plus) = true
is_sum (token.Sign sign.Minus) = true
is_sum _ = false

abbrev pub is_operator : Token → Bool
is_operator = either is_product is_sum

sum_opens : (x : SumSign) (r : List Token) → begins is_operator (after (sum_text x) r) ≡ true
sum_opens sums.Plus r = refl
sum_opens sums.Minus r = refl

sum_no_product : (x : SumSign) (r : List Token) → begins is_product (after (sum_text x) r) ≡ false
sum_no_product sums.Plus r = refl
sum_no_product sums.Minus r = refl

product_opens : (x : ProductSign) (r : List Token) → begins is_product (after (product_text x) r) ≡ true
product_opens products.Times r = refl
product_opens products.Over r = refl

-- what follows a term that other terms follow
terms_follow : (xs : MoreTermTrees) (r : List Token) → begins is_operator r ≡ false → begins is_product (after (more_terms_text xs) r) ≡ false
terms_follow no_terms r f = not_first is_product is_sum r f
terms_follow (more_terms sign term rest) r f = sum_no_product sign _

mutual
  pub expr_once : OnceBefore expr_text bare_expr is_operator
  expr_once (expr_tree a xs) (expr_tree b ys) r s f g e =
      let p = term2_once a b _ _ (terms_follow xs r f) (terms_follow ys s g) e in
      let q = more_terms_once xs ys r s f g p.1 in (cc, q.1)

  more_terms_once : OnceBefore more_terms_text bare_more_terms is_operator
  more_terms_once no_terms no_terms r s f g e = (refl, e)
  more_terms_once no_terms (more_terms y b ys) r s f g e = clash is_operator r _ f (sum_opens y _) e
  more_terms_once (more_terms x a xs) no_terms r s f g e = clash is_operator s _ g (sum_opens x _) (sym e)
  more_terms_once (more_terms x a xs) (more_terms y b ys) r s f g e =
      let o = sum_once x y _ _ e in
      let p = term2_once a b _ _ (terms_follow xs r f) (terms_follow ys s g) o.1 in
      let q = more_terms_once xs ys r s f g p.1 in (cc, q.1)

  term2_once : OnceBefore term2_text bare_term2 is_product
  term2_once (term_tree a xs) (term_tree b ys) r s f g e =
      let p = factor_once a b _ _ e in
      let q = more_factors_once xs ys r s f g p.1 in (cc, q.1)

  more_factors_once : OnceBefore more_factors_text bare_more_factors is_product
  more_factors_once no_factors no_factors r s f g e = (refl, e)
  more_factors_once no_factors (more_factors y b ys) r s f g e = clash is_product r _ f (product_opens y _) e
  more_factors_once (more_factors x a xs) no_factors r s f g e = clash is_product s _ g (product_opens x _) (sym e)
  more_factors_once (more_factors x a xs) (more_factors y b ys) r s f g e =
      let o = product_once x y _ _ e in
      let p = factor_once a b _ _ o.1 in
      let q = more_factors_once xs ys r s f g p.1 in (cc, q.1)

  factor_once : Once factor_text bare_factor
  factor_once (number_tree a) (number_tree b) r s e = (cc, cc)
  factor_once (name_tree a) (name_tree b) r s e = (cc, cc)
  factor_once (group_tree p a) (group_tree q b) r s e =
      let d = expr_once a b (token.Sign sign.CloseParenthesis ∷ r) (token.Sign sign.CloseParenthesis ∷ s) refl refl cc in (ap (group_tree 0) d.0, cc)
  factor_once (number_tree a) (name_tree b) r s e = absurd cc
  factor_once (number_tree a) (group_tree q b) r s e = absurd cc
  factor_once (name_tree a) (number_tree b) r s e = absurd cc
  factor_once (name_tree a) (group_tree q b) r s e = absurd cc
  factor_once (group_tree p a) (number_tree b) r s e = absurd cc
  factor_once (group_tree p a) (name_tree b) r s e = absurd cc

-- an expression before a token that doesn't go on with it
pub expr_then : (t : Token) → is_operator t ≡ false → (a b : ExprTree) (r s : List Token) → after (expr_text a) (t ∷ r) ≡ after (expr_text b) (t ∷ s) → (bare_expr a ≡ bare_expr b) × (r ≡ s)
expr_then t f a b r s e = let p = expr_once a b (t ∷ r) (t ∷ s) f f e in (p.0, rest p.1)
