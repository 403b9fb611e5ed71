use Rattle.std.proofs.Common.{take}
use Rattle.dsr_graph.specs.Told.{TellsExcuses}
use Rattle.dsr_graph.specs.Graphs.{owner_at}
use Rattle.dsr_graph.specs.Paired.{ArePaired}
use Rattle.dsr_compensate.specs.Owned.{owner_of}
use Rattle.dsr_graph.proofs.building.all_excuses.Given as goal

abbrev pub invariant-loop-other : goal.invariant-loop-other
invariant-loop-other l =
    ArePaired (λ n other its. TellsExcuses (owner_of l.owner) (owner_at (owner_of l.owner).spec n other) its) (take l.other-index (owner_of l.owner).spec.constraints) l.all.items
