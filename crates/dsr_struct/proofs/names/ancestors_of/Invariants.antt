use Rattle.std.proofs.Common.{◌≡◌, map, take}
use Rattle.std.specs.Str.{bytes_eq}
use Rattle.indexmap.specs.IndexMap.{get}
use Rattle.dsr_tree.specs.Trees.{structure_shape}
use Rattle.dsr_language_theory.specs.Names.{all_ancestors}
use Rattle.dsr_struct.proofs.names.ancestors_of.Given as goal

abbrev pub invariant-loop-structure : goal.invariant-loop-structure
invariant-loop-structure l = map (λ v. v.items) l.lines.items ≡ all_ancestors (get bytes_eq l.numbers) (map structure_shape (take l.structure-index l.structures))
