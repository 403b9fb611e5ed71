use Rattle.std.proofs.Common.{IfSome, subst}
use Rattle.dsr_syntax_theory.specs.Parsing.{IsTreeOf}
use Rattle.dsr_tree.specs.Trees.{tree_shape}
use Rattle.dsr_spec.proofs.Meant.{tree_means_none}
use Rattle.dsr_spec.proofs.readings.specification.Goals as goal

pub returns-in-Some-clause-none : goal.returns-in-Some-clause-none
returns-in-Some-clause-none c =
    tree_means_none c.args.text.now (tree_shape c.in-Some.tree)
    (subst (λ o. IfSome o (λ tree. IsTreeOf c.args.text.now (tree_shape tree))) c.in-Some.is c.in_ok-tree.ensures.tree)
    c.meant.result c.meant.ensures.none
