use Rattle.std.proofs.Common.{◌++◌, List, take}
use Rattle.dsr_compensate.specs.Taking.{AreTakenOf, AreWell, templates_of}
use Rattle.dsr_ir.specs.declared.updates.Template.{Template}
use Rattle.dsr_graph_theory.specs.Lists.{with_one}
use Rattle.dsr_compensate.specs.Owned.{owner_of}
use Rattle.dsr_compensate.proofs.listing.take_ones.Given as goal

abbrev pub invariant-loop-write : goal.invariant-loop-write
invariant-loop-write l =
    AreWell (owner_of l.owner) l.listed.items
    × ((all : List Template) → AreTakenOf (owner_of l.owner) l.atom all (templates_of l.initial.listed.items)
    → AreTakenOf (owner_of l.owner) l.atom (all ++ with_one (l.template, take l.write-index l.writes)) (templates_of l.listed.items))
