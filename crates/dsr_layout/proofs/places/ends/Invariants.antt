use Rattle.std.proofs.Common.{◌≡◌, take, length}
use Rattle.dsr_layout.specs.Tables.{known, HoldsEnds}
use Rattle.dsr_layout.proofs.places.ends.Given as goal

-- the ends of the structures so far
abbrev pub invariant-loop-structure : goal.invariant-loop-structure
invariant-loop-structure l = (length l.ends.items ≡ l.structure-index) × HoldsEnds (known l.fixed) (take l.structure-index l.structures) l.ends.items
