use Rattle.dsr_placement.proofs.Each.{EachBefore}
use Rattle.dsr_placement.specs.Atoms.{HasAtoms}
use Rattle.dsr_placement.proofs.atoms.atoms_of.Given as goal

abbrev pub invariant-loop-conj : goal.invariant-loop-conj
invariant-loop-conj l = EachBefore (λ n conj. HasAtoms l.atoms.items conj) l.constraint.conjs l.conj-index
