use Rattle.dsr_placement.proofs.Places.{IsLeft}
use Rattle.dsr_placement.proofs.atoms.place_of.Given as goal

abbrev pub invariant-loop-place : goal.invariant-loop-place
invariant-loop-place l = IsLeft l.atom l.atoms l.place
