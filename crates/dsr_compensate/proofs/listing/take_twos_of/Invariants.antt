use Rattle.std.proofs.Common.{◌++◌, List, take}
use Rattle.dsr_compensate.specs.Taking.{AreTakenOf, AreWell, templates_of, with_two_of}
use Rattle.dsr_ir.specs.declared.updates.Template.{Template}
use Rattle.dsr_compensate.specs.Owned.{owner_of}
use Rattle.dsr_compensate.proofs.listing.take_twos_of.Given as goal

abbrev pub invariant-loop-later : goal.invariant-loop-later
invariant-loop-later l =
    AreWell (owner_of l.owner) l.listed.items
    × ((all : List Template) → AreTakenOf (owner_of l.owner) l.atom all (templates_of l.initial.listed.items)
    → AreTakenOf (owner_of l.owner) l.atom (all ++ with_two_of l.template l.write (take l.later-index l.rest)) (templates_of l.listed.items))
