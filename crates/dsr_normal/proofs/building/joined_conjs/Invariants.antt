use Rattle.std.proofs.Common.{◌≡◌, take}
use Rattle.dsr_language_theory.specs.NormalForms.{joined}
use Rattle.dsr_normal.specs.Literals.{literals_of}
use Rattle.dsr_normal.proofs.building.joined_conjs.Given as goal

abbrev pub invariant-loop-first : goal.invariant-loop-first
invariant-loop-first l = literals_of l.conjs.items ≡ joined (literals_of (take l.first-index l.left)) (literals_of l.right)
