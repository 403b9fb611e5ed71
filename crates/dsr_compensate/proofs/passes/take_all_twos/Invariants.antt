use Rattle.std.proofs.Common.{◌++◌, List, map, take}
use Rattle.std.specs.List.{flat_map}
use Rattle.dsr_compensate.specs.Taking.{AreTakenOf, AreWell, ones_of, templates_of, twos_of}
use Rattle.dsr_ir.specs.declared.updates.Template.{Template}
use Rattle.dsr_compensate.specs.Owned.{owner_of}
use Rattle.dsr_compensate.proofs.passes.take_all_twos.Given as goal

abbrev pub invariant-loop-compensable : goal.invariant-loop-compensable
invariant-loop-compensable l =
    AreWell (owner_of l.owner) l.listed.items
    × ((all : List Template) → AreTakenOf (owner_of l.owner) l.atom all (templates_of l.initial.listed.items)
    → AreTakenOf (owner_of l.owner) l.atom (all ++ flat_map twos_of (take l.compensable-index l.tried)) (templates_of l.listed.items))
