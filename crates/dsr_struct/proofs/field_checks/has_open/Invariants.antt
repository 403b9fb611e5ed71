use Rattle.std.proofs.Common.{◌≡◌, drop, map}
use Rattle.dsr_tree.specs.Trees.{field_shape}
use Rattle.dsr_language_theory.specs.Declarations.{has_open}
use Rattle.dsr_struct.proofs.field_checks.has_open.Given as goal

abbrev pub invariant-loop-field : goal.invariant-loop-field
invariant-loop-field l = has_open (map field_shape (drop l.field-index l.fields)) ≡ has_open (map field_shape l.fields)
