use Rattle.std.proofs.Common.{◌≡◌, ◌++◌, take}
use Rattle.std.specs.List.{flat_map}
use Rattle.dsr_graph_theory.specs.Causes.{literal_causes}
use Rattle.dsr_graph.proofs.causes.push_conj_causes.Given as goal

abbrev pub invariant-loop-literal : goal.invariant-loop-literal
invariant-loop-literal l = l.causes.items ≡ l.initial.causes.items ++ flat_map literal_causes (take l.literal-index l.literal-items)
