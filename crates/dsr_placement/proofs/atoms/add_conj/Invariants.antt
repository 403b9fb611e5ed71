use Rattle.dsr_placement.proofs.Each.{EachBefore}
use Rattle.dsr_placement.specs.Atoms.{Keeps}
use Rattle.dsr_meaning.specs.Counting.{IsIn}
use Rattle.dsr_placement.proofs.atoms.add_conj.Given as goal

abbrev pub invariant-loop-literal : goal.invariant-loop-literal
invariant-loop-literal l =
    Keeps l.initial.atoms.items l.atoms.items
    × EachBefore (λ n literal. IsIn literal.atom l.atoms.items) l.literal-items l.literal-index
