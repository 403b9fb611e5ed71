use Rattle.std.proofs.Common.{take}
use Rattle.dsr_graph.specs.Paired.{ArePaired}
use Rattle.dsr_removal.specs.Taking.{IsRowAt}
use Rattle.dsr_removal.proofs.taking.rows.Given as goal

abbrev pub invariant-loop-number : goal.invariant-loop-number
invariant-loop-number l =
    ArePaired (λ n constraint row. IsRowAt l.spec l.placed.rounds.items l.placed.count n constraint row) (take l.number l.spec.constraints) l.rows.items
