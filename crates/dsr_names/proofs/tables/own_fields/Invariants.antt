use Rattle.std.proofs.Common.{◌≡◌, take, map}
use Rattle.std.specs.List.{position_from}
use Rattle.std.specs.Str.{bytes_eq}
use Rattle.indexmap.specs.IndexMap.{get}
use Rattle.dsr_language_theory.specs.Known.{has_field_name}
use Rattle.dsr_names.proofs.tables.own_fields.Given as goal

abbrev pub invariant-loop-structure : goal.invariant-loop-structure
invariant-loop-structure l = map (get bytes_eq) l.tables.items ≡ map (λ s q. position_from (has_field_name q) 0 s.fields) (take l.structure-index l.structures)
