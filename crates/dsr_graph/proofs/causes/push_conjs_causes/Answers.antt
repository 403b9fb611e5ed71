use Rattle.std.proofs.Common.{◌++◌, sym, ap, ◌∙◌}
use Rattle.std.specs.List.{flat_map}
use Rattle.dsr_graph_theory.specs.Causes.{literal_causes}
use Rattle.dsr_ir.specs.declared.constraints.Conj.{Conj}
use Rattle.dsr_graph.proofs.Declared.{more_listed}
use Rattle.dsr_graph.proofs.causes.push_conjs_causes.Goals as goal

pub loop-conj-preserved : goal.loop-conj-preserved
loop-conj-preserved c =
    more_listed (λ (conj : Conj). flat_map literal_causes conj.literals) c.args.conjs.now c.loop-conj.conj-index c.conj-item.result c.loop-conj-test.true c.args.causes.now.items c.loop-conj.causes.items
    c.push_conj_causes.new.causes.items c.loop-conj.invariant (c.in_ok-push_conj_causes.ensures ∙ ap (λ (conj : Conj). c.loop-conj.causes.items ++ flat_map literal_causes conj.literals) c.conj-item.is)
