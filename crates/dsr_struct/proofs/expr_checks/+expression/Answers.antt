use Rattle.std.specs.Str.{bytes_eq}
use Rattle.indexmap.specs.IndexMap.{get}
use Rattle.dsr_tree.proofs.TreeRows.{expr_is, term_is}
use Rattle.dsr_struct.proofs.ExprSteps.{finds_term, finds_factor}
use Rattle.dsr_names.proofs.Finding.{finds_then}
use Rattle.dsr_struct.proofs.expr_checks.+expression.Goals as goal

pub check_expr-returns : goal.check_expr-returns
check_expr-returns t c = rw (expr_is c.args.expr.now) (finds_then c.check_term.ensures (rw c.deref.ensures.value at c.check_more_terms.ensures))

pub check_term-returns : goal.check_term-returns
check_term-returns t c = rw (term_is c.args.term.now) (finds_then c.check_factor.ensures (rw c.deref.ensures.value at c.check_more_factors.ensures))

pub check_more_terms-loop-more-preserved : goal.check_more_terms-loop-more-preserved
check_more_terms-loop-more-preserved t c = finds_term (get bytes_eq c.args.fixed.now) c.args.terms.now c.loop-more.more-index c.more-item.result c.loop-more-test.true c.more-item.is c.loop-more.invariant c.check_term.ensures

pub check_more_factors-loop-more-preserved : goal.check_more_factors-loop-more-preserved
check_more_factors-loop-more-preserved t c = finds_factor (get bytes_eq c.args.fixed.now) c.args.factors.now c.loop-more.more-index c.more-item.result c.loop-more-test.true c.more-item.is c.loop-more.invariant c.check_factor.ensures
