use Rattle.dsr_layout.specs.Tables.{known}
use Rattle.dsr_layout.proofs.Placed.{PlacesSoFar}
use Rattle.dsr_layout.proofs.places.places.Given as goal

-- what the structures that are left add to those so far
abbrev pub invariant-loop-number : goal.invariant-loop-number
invariant-loop-number l = PlacesSoFar (known l.fixed) l.ends l.structures l.number l.places.items
