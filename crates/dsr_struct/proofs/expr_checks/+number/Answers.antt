use Rattle.std.proofs.Common.{sym, ◌∙◌}
use Rattle.dsr_struct.proofs.ExprSteps.{number_is, number_term_is}
use Rattle.dsr_struct.proofs.expr_checks.+number.Goals as goal

pub is_number-returns-then-is_empty : goal.is_number-returns-then-is_empty
is_number-returns-then-is_empty t c = c.is_number_term.ensures ∙ sym (number_is c.args.expr.now c.if-is_empty.ensures)

pub is_number-returns-else-is_empty : goal.is_number-returns-else-is_empty
is_number-returns-else-is_empty t c = c.if-is_empty.false ∙ sym (number_is c.args.expr.now c.if-is_empty.ensures)

pub is_number_term-returns-then-is_empty : goal.is_number_term-returns-then-is_empty
is_number_term-returns-then-is_empty t c = c.is_number_factor.ensures ∙ sym (number_term_is c.args.term.now c.if-is_empty.ensures)

pub is_number_term-returns-else-is_empty : goal.is_number_term-returns-else-is_empty
is_number_term-returns-else-is_empty t c = c.if-is_empty.false ∙ sym (number_term_is c.args.term.now c.if-is_empty.ensures)
