use Rattle.std.proofs.Common.{◌≡◌, map, take}
use Rattle.dsr_tree.specs.Trees.{field_shape}
use Rattle.dsr_language_theory.specs.Tables.{typed_field}
use Rattle.dsr_struct.specs.Known.{known_of}
use Rattle.dsr_struct.proofs.lookups.Names.typed_fields.Given as goal

abbrev pub invariant-loop-field : goal.invariant-loop-field
invariant-loop-field l = l.typed.items ≡ map (typed_field (known_of l.fn.self)) (map field_shape (take l.field-index l.fields))
