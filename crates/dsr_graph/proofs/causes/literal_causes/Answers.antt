use Rattle.std.proofs.Common.{◌++◌, ap, ◌∙◌}
use Rattle.std.proofs.lemmas.List.Elements.{All-same}
use Rattle.dsr_graph_theory.specs.Causes.{literal_causes}
use Rattle.dsr_graph.proofs.Declared.{literal_declared}
use Rattle.dsr_graph.specs.Told.{IsOfDeclared}
use Rattle.dsr_graph.proofs.causes.literal_causes.Goals as goal

pub returns-clause-declared : goal.returns-clause-declared
returns-clause-declared c =
    All-same (IsOfDeclared c.args.spec.now.base) c.push_literal_causes.new.causes.items (literal_causes c.args.literal.now)
    (c.in_ok-push_literal_causes.ensures ∙ ap (λ xs. xs ++ literal_causes c.args.literal.now) c.new-causes.ensures.items)
    (literal_declared c.args.spec.now c.args.quant.now c.args.literal.now c.requires.literal)
