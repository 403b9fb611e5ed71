use Rattle.std.proofs.Common.{take}
use Rattle.dsr_graph.specs.Graphs.{IsListingOf}
use Rattle.dsr_graph.specs.Paired.{ArePaired}
use Rattle.dsr_compensate.specs.Owned.{owner_of}
use Rattle.dsr_graph.proofs.listings.Asked.listings.Given as goal

abbrev pub invariant-loop-first : goal.invariant-loop-first
invariant-loop-first l =
    ArePaired (λ n first listing. IsListingOf (owner_of l.self.owner.now) l.self.firsts.now first.literal listing) (take l.first-index l.self.firsts.now) l.listings.items
