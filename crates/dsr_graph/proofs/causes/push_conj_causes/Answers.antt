use Rattle.std.proofs.Common.{◌∙◌, arith}
use Rattle.std.proofs.lemmas.Grind.{common_steps}
use Rattle.dsr_graph_theory.specs.Causes.{literal_causes}
use Rattle.dsr_graph.proofs.Declared.{more_listed}
use Rattle.dsr_graph.proofs.causes.push_conj_causes.Goals as goal

pub loop-literal-preserved : goal.loop-literal-preserved
loop-literal-preserved c =
    more_listed literal_causes c.items-literal-items.result.now c.loop-literal.literal-index _ c.loop-literal-test.true c.args.causes.now.items c.loop-literal.causes.items
    c.push_literal_causes.new.causes.items c.loop-literal.invariant c.in_ok-push_literal_causes.ensures

pub returns : goal.returns
returns c = grind (arith, common_steps)
