use Rattle.std.proofs.Common.{ap, ◌∙◌}
use Rattle.std.specs.List.{position_from}
use Rattle.std.specs.Str.{bytes_eq}
use Rattle.indexmap.specs.IndexMap.{get}
use Rattle.dsr_language_theory.specs.Known.{has_field_name}
use Rattle.dsr_names.proofs.Growing.{map_next}
use Rattle.dsr_names.proofs.Numbering.{field_numbers}
use Rattle.dsr_names.proofs.tables.own_fields.Goals as goal

pub loop-structure-preserved : goal.loop-structure-preserved
loop-structure-preserved c =
    map_next (get bytes_eq) (λ s q. position_from (has_field_name q) 0 s.fields) c.loop-structure.tables.items c.push.new.self.items c.in_ok-numbers_from.field-0 c.args.structures.now c.loop-structure.structure-index c.structure-item.result c.loop-structure-test.true c.structure-item.is c.loop-structure.invariant c.in_ok-push.ensures.items
    (λ i q. (c.in_ok-numbers_from.ensures q ∙ field_numbers q c.items.result.now ∙ ap (position_from (has_field_name q) 0) c.items.ensures) i)
