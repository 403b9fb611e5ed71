use Rattle.std.proofs.Common.{map, take, ap, ◌∙◌}
use Rattle.std.specs.Str.{bytes_eq}
use Rattle.indexmap.specs.IndexMap.{get}
use Rattle.dsr_tree.specs.Trees.{structure_shape}
use Rattle.dsr_language_theory.specs.Names.{all_ancestors, field_number}
use Rattle.dsr_struct.proofs.names.structure_tables.Goals as goal

pub returns : goal.returns
returns c =
    let numbers = c.in_ok-numbers in
    let rows = c.in_ok-rows.ensures in
    record {
      structures = numbers.ensures.structures;
      fixed = numbers.ensures.fixed;
      fields = rows.fields ∙ ap (map (λ s. field_number (structure_shape s))) c.items.ensures;
      ancestors = rows.ancestors ∙ ap (λ ss. all_ancestors (get bytes_eq numbers.numbers.structures) (map structure_shape (take 65 ss))) c.items.ensures;
    }
