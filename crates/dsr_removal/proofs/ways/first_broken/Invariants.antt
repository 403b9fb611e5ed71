use Rattle.std.proofs.Common.{◌≡◌, length}
use Rattle.dsr_graph.specs.Graphs.{IsWayOf}
use Rattle.dsr_ir.specs.declared.updates.Template.{Template}
use Rattle.dsr_graph_theory.specs.Owners.{Owner}
use Rattle.dsr_placement.specs.Placing.{IsLeft}
use Rattle.dsr_removal.proofs.Breaking.{NoneBroken}
use Rattle.dsr_removal.proofs.ways.first_broken.Given as goal

-- none of those so far is left and broken
abbrev pub invariant-loop-other : goal.invariant-loop-other
invariant-loop-other l =
    (owner : Owner) (template : Template) → IsWayOf l.graph l.at.constraint l.at.conj l.at.literal l.number owner template
    → length l.left ≡ length owner.spec.constraints → NoneBroken owner (IsLeft l.left) template l.other
