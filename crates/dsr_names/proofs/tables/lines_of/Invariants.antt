use Rattle.std.proofs.Common.{◌≡◌, map, take}
use Rattle.dsr_names.proofs.Ancestors.{lines}
use Rattle.dsr_names.proofs.tables.lines_of.Given as goal

abbrev pub invariant-loop-structure : goal.invariant-loop-structure
invariant-loop-structure l = map (λ v. v.items) l.lines.items ≡ lines (take l.structure-index l.structures)
