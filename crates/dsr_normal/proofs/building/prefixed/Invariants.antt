use Rattle.std.proofs.Common.{◌≡◌, ◌++◌, map, take}
use Rattle.dsr_normal.specs.Literals.{literals_of}
use Rattle.dsr_normal.proofs.building.prefixed.Given as goal

abbrev pub invariant-loop-other : goal.invariant-loop-other
invariant-loop-other l = literals_of l.conjs.items ≡ map (λ d. l.left.literals ++ d) (literals_of (take l.other-index l.right))
