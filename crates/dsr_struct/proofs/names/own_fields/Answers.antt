use Rattle.std.proofs.Common.{map, ap, ◌∙◌}
use Rattle.std.specs.List.{position_from}
use Rattle.std.specs.Str.{bytes_eq}
use Rattle.indexmap.specs.IndexMap.{get}
use Rattle.dsr_tree.specs.Trees.{field_shape, structure_shape}
use Rattle.dsr_language_theory.specs.Names.{field_number, has_name}
use Rattle.dsr_names.proofs.Growing.{map_next}
use Rattle.dsr_struct.proofs.Numbering.{field_numbers}
use Rattle.dsr_struct.proofs.names.own_fields.Goals as goal

pub loop-structure-preserved : goal.loop-structure-preserved
loop-structure-preserved c =
    map_next (get bytes_eq) (λ s. field_number (structure_shape s)) c.loop-structure.tables.items c.push.new.self.items c.in_ok-numbers.numbers c.args.structures.now c.loop-structure.structure-index c.structure-item.result c.loop-structure-test.true c.structure-item.is c.loop-structure.invariant c.in_ok-push.ensures.items
    (λ i q. (c.in_ok-numbers.ensures q ∙ field_numbers q c.items.result.now ∙ ap (λ fs. position_from (has_name q) 0 (map field_shape fs)) c.items.ensures) i)
