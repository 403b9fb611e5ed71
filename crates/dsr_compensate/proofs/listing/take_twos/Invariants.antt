use Rattle.std.proofs.Common.{List}
use Rattle.dsr_compensate.proofs.Pairs.{ArePairsTaken}
use Rattle.dsr_compensate.specs.Taking.{AreTakenOf, AreWell, templates_of}
use Rattle.dsr_compensate.specs.Owned.{owner_of}
use Rattle.dsr_compensate.proofs.listing.take_twos.Given as goal

abbrev pub invariant-loop-place : goal.invariant-loop-place
invariant-loop-place l =
    AreWell (owner_of l.owner) l.listed.items
    × ArePairsTaken l.template l.writes l.place (λ all. AreTakenOf (owner_of l.owner) l.atom all (templates_of l.initial.listed.items)) (λ all. AreTakenOf (owner_of l.owner) l.atom all (templates_of l.listed.items))
