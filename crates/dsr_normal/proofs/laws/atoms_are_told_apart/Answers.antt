use Rattle.dsr_language_theory.proofs.SameAtoms.{told_apart}
use Rattle.dsr_normal.proofs.laws.atoms_are_told_apart.Goals as goal

pub returns : goal.returns
returns c = told_apart
