use Rattle.std.proofs.lemmas.Result.{on_ok_weaker}
use Rattle.dsr_tree.specs.Trees.{more_term_shape, more_factor_shape}
use Rattle.dsr_syntax_theory.specs.TreeTexts.{more_term_text, more_factor_text}
use Rattle.dsr_print.proofs.Steps.{adds_then, adds_shape}
use Rattle.dsr_print.proofs.Rows.{expr_is, term_is, more_term_is}
use Rattle.dsr_print.proofs.expressions.+expression.Goals as goal

pub add_expr-returns : goal.add_expr-returns
add_expr-returns t c = on_ok_weaker c.add_more_terms.result (λ last. rw (expr_is c.args.expr.now) (adds_then c.in_ok-add_term.ensures (rw c.deref.ensures.value at last))) c.add_more_terms.ensures

pub add_term-returns : goal.add_term-returns
add_term-returns t c = on_ok_weaker c.add_more_factors.result (λ last. rw (term_is c.args.term.now) (adds_then c.in_ok-add_factor.ensures (rw c.deref.ensures.value at last))) c.add_more_factors.ensures

pub add_more_terms-loop-more-preserved : goal.add_more_terms-loop-more-preserved
add_more_terms-loop-more-preserved t c = adds_shape more_term_text more_term_shape c.args.terms.now c.loop-more.more-index c.more-item.result c.loop-more-test.true c.more-item.is c.loop-more.invariant (rw (more_term_is c.more-item.result) (adds_then c.in_ok-add_sum_sign.ensures c.in_ok-add_term.ensures))

pub add_more_factors-loop-more-preserved : goal.add_more_factors-loop-more-preserved
add_more_factors-loop-more-preserved t c = adds_shape more_factor_text more_factor_shape c.args.factors.now c.loop-more.more-index c.more-item.result c.loop-more-test.true c.more-item.is c.loop-more.invariant (adds_then c.in_ok-add_product_sign.ensures c.in_ok-add_factor.ensures)

pub add_group-returns : goal.add_group-returns
add_group-returns t c = on_ok_weaker c.add_sign-2.result (λ last. adds_then c.in_ok-add_sign.ensures (adds_then c.in_ok-add_expr.ensures last)) c.add_sign-2.ensures
