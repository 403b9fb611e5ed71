use Rattle.std.proofs.Common.{◌↔◌, IsTrue, take}
use Rattle.dsr_graph_theory.specs.Breaks.{MayFalsify}
use Rattle.dsr_graph.specs.Paired.{ArePaired}
use Rattle.dsr_compensate.specs.Owned.{owner_of}
use Rattle.dsr_graph.proofs.listings.Asked.falsified.Given as goal

abbrev pub invariant-loop-causes : goal.invariant-loop-causes
invariant-loop-causes l =
    ArePaired (λ n first mark. IsTrue mark ↔ MayFalsify (owner_of l.self.owner.now) l.judged.template first.literal) (take l.causes-index l.self.firsts.now) l.marks.items
