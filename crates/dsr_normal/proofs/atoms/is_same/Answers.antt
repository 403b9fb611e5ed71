use Rattle.std.proofs.Common.{◌∙◌}
use Rattle.dsr_normal.proofs.Derived.{atom_eq}
use Rattle.dsr_normal.proofs.atoms.is_same.Goals as goal

pub returns : goal.returns
returns c = c.eq.ensures ∙ atom_eq c.args.left c.args.right
