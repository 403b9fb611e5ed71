use Rattle.std.proofs.Common.{◌≡◌, map, take}
use Rattle.dsr_graph_theory.specs.Lists.{with_writes}
use Rattle.dsr_compensate.proofs.combining.compensated_by.Given as goal

abbrev pub invariant-loop-update : goal.invariant-loop-update
invariant-loop-update l = l.updates.items ≡ map (with_writes l.more) (take l.update-index l.update-items)
