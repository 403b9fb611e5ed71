use Rattle.std.proofs.Common.{sym, subst}
use Rattle.dsr_syntax_theory.specs.Parsing.{IsReprinted}
use Rattle.dsr_tree.specs.Trees.{tree_shape}
use Rattle.dsr_print.proofs.Printed.{printed}
use Rattle.dsr_print.proofs.Reprinting.{reprinted}
use Rattle.dsr_print.proofs.print.Goals as goal

pub returns-clause-canonical : goal.returns-clause-canonical
returns-clause-canonical c = printed c.args.tree.now c.new-text.ensures.items c.in_ok-add_version.ensures c.in_ok-add_order.ensures (rw c.items.ensures at c.in_ok-add_lines.ensures) (rw c.items-2.ensures at c.in_ok-add_lines-2.ensures) (rw c.items-3.ensures at c.in_ok-add_lines-3.ensures) (rw c.items-4.ensures at c.in_ok-add_lines-4.ensures) (rw c.items-5.ensures at c.in_ok-add_lines-5.ensures) (rw c.items-6.ensures at c.in_ok-add_lines-6.ensures) (rw c.items-7.ensures at c.in_ok-add_lines-7.ensures)

pub returns-clause-again : goal.returns-clause-again
returns-clause-again c source is = subst (λ text. IsReprinted source text (tree_shape c.args.tree.now)) (sym (printed c.args.tree.now c.new-text.ensures.items c.in_ok-add_version.ensures c.in_ok-add_order.ensures (rw c.items.ensures at c.in_ok-add_lines.ensures) (rw c.items-2.ensures at c.in_ok-add_lines-2.ensures) (rw c.items-3.ensures at c.in_ok-add_lines-3.ensures) (rw c.items-4.ensures at c.in_ok-add_lines-4.ensures) (rw c.items-5.ensures at c.in_ok-add_lines-5.ensures) (rw c.items-6.ensures at c.in_ok-add_lines-6.ensures) (rw c.items-7.ensures at c.in_ok-add_lines-7.ensures))) (reprinted source (tree_shape c.args.tree.now) is)
