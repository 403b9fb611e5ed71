use Rattle.std.proofs.Common.{◌≡◌, drop}
use Rattle.dsr_language_theory.specs.NormalForms.{has_atom}
use Rattle.dsr_normal.proofs.atoms.is_among.Given as goal

abbrev pub invariant-loop-other : goal.invariant-loop-other
invariant-loop-other l = has_atom (drop l.other-index l.atoms) l.atom ≡ has_atom l.atoms l.atom
