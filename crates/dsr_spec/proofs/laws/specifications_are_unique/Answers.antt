use Rattle.std.proofs.Common.{sym, ap, ◌∙◌}
use Rattle.dsr_parse.proofs.TreesOnce.{tree_unique}
use Rattle.dsr_language_theory.specs.Specifications.{specification}
use Rattle.dsr_spec.proofs.laws.specifications_are_unique.Goals as goal

pub returns : goal.returns
returns c = λ text a b p q. p.is ∙ ap specification (tree_unique text p.tree q.tree p.is_tree q.is_tree) ∙ sym q.is
