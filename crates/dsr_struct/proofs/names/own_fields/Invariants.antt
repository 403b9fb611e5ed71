use Rattle.std.proofs.Common.{◌≡◌, take, map}
use Rattle.std.specs.Str.{bytes_eq}
use Rattle.indexmap.specs.IndexMap.{get}
use Rattle.dsr_tree.specs.Trees.{structure_shape}
use Rattle.dsr_language_theory.specs.Names.{field_number}
use Rattle.dsr_struct.proofs.names.own_fields.Given as goal

abbrev pub invariant-loop-structure : goal.invariant-loop-structure
invariant-loop-structure l = map (get bytes_eq) l.tables.items ≡ map (λ s. field_number (structure_shape s)) (take l.structure-index l.structures)
