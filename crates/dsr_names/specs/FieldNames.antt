-- The name of a field.
use Rattle.std.specs.Prelude.{ℕ, List, Option, None, Some}
use Rattle.dsr_tree.specs.declared.tree.Field.{Field}
use Rattle.dsr_tree.specs.declared.tree.Field.TheVariants as fields

-- the name of a field; a gap has none
abbrev pub field_name : Field → Option (List ℕ)
field_name (fields.Named f) = Some f.name.name
field_name (fields.Skip place length) = None
