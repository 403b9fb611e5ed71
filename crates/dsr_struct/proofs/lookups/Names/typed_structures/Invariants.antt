use Rattle.std.proofs.Common.{◌≡◌, map, take}
use Rattle.dsr_tree.specs.Trees.{structure_shape}
use Rattle.dsr_language_theory.specs.Tables.{typed_structure}
use Rattle.dsr_struct.specs.Known.{known_of}
use Rattle.dsr_struct.proofs.lookups.Names.typed_structures.Given as goal

abbrev pub invariant-loop-structure : goal.invariant-loop-structure
invariant-loop-structure l = l.typed.items ≡ map (typed_structure (known_of l.fn.self)) (map structure_shape (take l.structure-index l.structure-items))
