use Rattle.std.proofs.Common.{◌≡◌, ◌≤◌, [], length, drop}
use Rattle.dsr_language_theory.specs.NormalForms.{different}
use Rattle.dsr_normal.proofs.atoms.are_many.Given as goal

abbrev pub invariant-loop-atom : goal.invariant-loop-atom
invariant-loop-atom l = (length l.seen.items ≤ 8) × (different l.seen.items (drop l.atom-index l.atoms) ≡ different [] l.atoms)
