use Rattle.std.proofs.Common.{sym, ◌∙◌}
use Rattle.std.specs.Cmp.{booleans_Decides}
use Rattle.dsr_graph.proofs.SameAtoms.{atom_decides}
use Rattle.dsr_graph.proofs.kinds.are_alike.Goals as goal

pub returns-then-eq : goal.returns-then-eq
returns-then-eq c = (
  λ t. record {
    atom = (atom_decides c.args.a.now.atom c.args.b.now.atom).0 (sym c.eq.ensures ∙ c.if-eq.true);
    negated = (booleans_Decides c.args.a.now.negated c.args.b.now.negated).0 t;
  },
  λ alike. (booleans_Decides c.args.a.now.negated c.args.b.now.negated).1 alike.negated,
)
