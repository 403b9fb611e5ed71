use Rattle.std.proofs.Common.{take}
use Rattle.dsr_graph_theory.specs.Breaks.{Breaks}
use Rattle.dsr_graph.specs.Graphs.{owner_at, reason_of}
use Rattle.dsr_graph.specs.Paired.{ArePaired}
use Rattle.dsr_compensate.specs.Owned.{owner_of}
use Rattle.dsr_graph.proofs.listings.Asked.broken.Given as goal

abbrev pub invariant-loop-other : goal.invariant-loop-other
invariant-loop-other l =
    ArePaired (λ n other edge. Breaks (owner_of l.self.owner.now) (owner_at (owner_of l.self.owner.now).spec n other) l.judged.template (reason_of edge)) (take l.other (owner_of l.self.owner.now).spec.constraints) l.edges.items
