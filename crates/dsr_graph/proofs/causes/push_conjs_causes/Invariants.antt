use Rattle.std.proofs.Common.{◌≡◌, ◌++◌, take}
use Rattle.std.specs.List.{flat_map}
use Rattle.dsr_graph_theory.specs.Causes.{literal_causes}
use Rattle.dsr_graph.proofs.causes.push_conjs_causes.Given as goal

abbrev pub invariant-loop-conj : goal.invariant-loop-conj
invariant-loop-conj l = l.causes.items ≡ l.initial.causes.items ++ flat_map (λ conj. flat_map literal_causes conj.literals) (take l.conj-index l.conjs)
