use Rattle.std.proofs.Common.{None, take, slice_index_or}
use Rattle.dsr_graph.specs.Paired.{ArePaired}
use Rattle.dsr_removal.specs.Rounds.{IsLeftAt, IsNext}
use Rattle.dsr_removal.proofs.rounds.Turn.all_next.Given as goal

abbrev pub invariant-loop-number : goal.invariant-loop-number
invariant-loop-number l =
    ArePaired (λ n constraint after. IsNext l.spec (IsLeftAt l.rounds l.self.number) l.self.number n constraint (slice_index_or l.rounds n None) after)
    (take l.number l.spec.constraints) l.next.items
