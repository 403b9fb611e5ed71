use Rattle.std.proofs.Common.{◌≡◌, [], false, subst, ◌∙◌}
use Rattle.std.specs.Prelude.{IfOk}
use Rattle.dsr_graph_theory.specs.Causes.{constraint_causes}
use Rattle.dsr_graph.proofs.Declared.{collected, constraint_declared}
use Rattle.dsr_graph.proofs.Once.{if_once}
use Rattle.dsr_graph.specs.Told.{IsOfDeclared}
use Rattle.dsr_update_theory.specs.Templates.{AreOnce}
use Rattle.dsr_graph.proofs.causes.constraint_causes.Goals as goal

pub returns : goal.returns
returns c =
    let all : c.deref.result.now ≡ constraint_causes false c.args.constraint.now = c.deref.ensures.value ∙ collected c.args.constraint.now c.push_conjs_causes.new.causes.items c.push_quantifier_causes.new.causes.items c.new-causes.result.items c.items.result.now c.in_ok-push_conjs_causes.ensures c.in_ok-push_quantifier_causes.ensures c.new-causes.ensures.items c.items.ensures in
    let once = subst (λ xs. IfOk c.each_once.result (λ found. AreOnce [] xs found.items)) all c.each_once.ensures in
    record {
      once = once;
      declared = if_once (IsOfDeclared c.args.spec.now.base) (constraint_causes false c.args.constraint.now) c.each_once.result (constraint_declared c.args.spec.now c.args.constraint.now c.requires.constraint) once;
    }
