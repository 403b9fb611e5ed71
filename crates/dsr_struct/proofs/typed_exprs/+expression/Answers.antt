use Rattle.std.proofs.Common.{◌∙◌}
use Rattle.std.proofs.lemmas.Result.{IfOk-weaker}
use Rattle.std.specs.Str.{bytes_eq}
use Rattle.indexmap.specs.IndexMap.{get}
use Rattle.dsr_struct.proofs.ExprSteps.{expr_typed, term_typed, sum_next, product_next}
use Rattle.dsr_struct.proofs.typed_exprs.+expression.Goals as goal

pub typed_expr-returns : goal.typed_expr-returns
typed_expr-returns t c = IfOk-weaker c.typed_sum.result _ _ (λ e last. last ∙ expr_typed (get bytes_eq c.args.fixed.now) c.args.expr.now c.in_ok-first.ensures c.deref.ensures.value) c.typed_sum.ensures

pub typed_term-returns : goal.typed_term-returns
typed_term-returns t c = IfOk-weaker c.typed_product.result _ _ (λ e last. last ∙ term_typed (get bytes_eq c.args.fixed.now) c.args.term.now c.in_ok-first.ensures c.deref.ensures.value) c.typed_product.ensures

pub typed_sum-loop-more-preserved : goal.typed_sum-loop-more-preserved
typed_sum-loop-more-preserved t c = c.in_ok-sum.ensures ∙ sum_next (get bytes_eq c.args.fixed.now) c.args.first c.args.rest.now c.loop-more.more-index c.more-item.result c.loop-more-test.true c.more-item.is c.loop-more.invariant c.in_ok-term.ensures

pub typed_product-loop-more-preserved : goal.typed_product-loop-more-preserved
typed_product-loop-more-preserved t c = c.in_ok-product.ensures ∙ product_next (get bytes_eq c.args.fixed.now) c.args.first c.args.rest.now c.loop-more.more-index c.more-item.result c.loop-more-test.true c.more-item.is c.loop-more.invariant c.in_ok-factor.ensures
