use Rattle.dsr_language_theory.proofs.SameAtoms.{found}
use Rattle.dsr_normal.proofs.AtomLists.{each_once}
use Rattle.dsr_normal.proofs.laws.different_atoms_are_all.Goals as goal

pub returns : goal.returns
returns c = record { found = found; each_once = each_once }
