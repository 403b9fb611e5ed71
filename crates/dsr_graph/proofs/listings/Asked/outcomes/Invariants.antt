use Rattle.std.proofs.Common.{take}
use Rattle.dsr_compensate.specs.Taking.{templates_of}
use Rattle.dsr_graph.specs.Graphs.{IsOutcomeOf}
use Rattle.dsr_graph.specs.Paired.{ArePaired}
use Rattle.dsr_compensate.specs.Owned.{owner_of}
use Rattle.dsr_graph.proofs.listings.Asked.outcomes.Given as goal

abbrev pub invariant-loop-its : goal.invariant-loop-its
invariant-loop-its l =
    ArePaired (λ n template outcome. IsOutcomeOf (owner_of l.self.owner.now) l.self.firsts.now template outcome) (take l.its-index (templates_of l.judged)) l.outcomes.items
