use Rattle.std.proofs.Common.{[], false, sym, subst, All}
use Rattle.dsr_graph_theory.specs.Causes.{constraint_causes}
use Rattle.dsr_graph.specs.Told.{IsOfDeclared}
use Rattle.dsr_graph.proofs.Paired.{paired_all, paired_push}
use Rattle.dsr_graph.specs.Asking.{AreCausesOf}
use Rattle.dsr_update_theory.specs.Templates.{AreOnce}
use Rattle.dsr_graph.proofs.building.all_causes.Goals as goal

pub loop-constraint-preserved : goal.loop-constraint-preserved
loop-constraint-preserved c =
    paired_push (λ n constraint its. AreCausesOf c.args.spec.now constraint its) c.items-constraint-items.result.now c.args.spec.now.constraints c.items-constraint-items.ensures c.loop-constraint.constraint-index c.loop-constraint-test.true c.constraint-item.result c.constraint-item.is
    c.loop-constraint.causes.items c.push.new.self.items c.new.result c.in_ok-push.ensures.items
    (record {
      once = subst (AreOnce [] (constraint_causes false c.constraint-item.result)) (sym c.new.ensures) c.in_ok-its.ensures.once;
      declared = subst (All (IsOfDeclared c.args.spec.now.base)) (sym c.new.ensures) c.in_ok-its.ensures.declared;
    }) c.loop-constraint.invariant

pub returns : goal.returns
returns c =
    paired_all (λ n constraint its. AreCausesOf c.args.spec.now constraint its) c.items-constraint-items.result.now c.args.spec.now.constraints c.items-constraint-items.ensures c.loop-constraint.causes.items c.loop-constraint.constraint-index c.loop-constraint-test.false c.loop-constraint.invariant
