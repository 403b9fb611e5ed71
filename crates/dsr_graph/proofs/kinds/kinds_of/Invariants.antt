use Rattle.std.proofs.Common.{All, take}
use Rattle.dsr_graph.specs.Kinds.{IsFirstIn, IsRowOf}
use Rattle.dsr_graph.specs.Paired.{ArePaired}
use Rattle.dsr_graph.proofs.kinds.kinds_of.Given as goal

abbrev pub invariant-loop-number : goal.invariant-loop-number
invariant-loop-number l =
    All (IsFirstIn l.constraint) l.firsts.items
    × ArePaired (λ n conj row. IsRowOf l.firsts.items conj.literals row.items) (take l.number l.constraint.conjs) l.numbers.items
