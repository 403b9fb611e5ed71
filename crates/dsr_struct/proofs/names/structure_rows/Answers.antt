use Rattle.std.proofs.Common.{map, take, length, ap, ◌∙◌}
use Rattle.std.proofs.lemmas.List.{take_min}
use Rattle.std.proofs.Math.Nat.{min_comm}
use Rattle.std.specs.Str.{bytes_eq}
use Rattle.indexmap.specs.IndexMap.{get}
use Rattle.dsr_tree.specs.Trees.{structure_shape}
use Rattle.dsr_language_theory.specs.Names.{all_ancestors}
use Rattle.dsr_struct.proofs.names.structure_rows.Goals as goal

pub returns : goal.returns
returns c =
    let number = get bytes_eq c.args.numbers.now in
    let structures = c.args.structures.now in
    record {
      fields = c.in_ok-fields.ensures;
      ancestors = c.in_ok-ancestors.ensures
          ∙ ap (λ n. all_ancestors number (map structure_shape (take n structures))) (c.min.ensures ∙ min_comm (length structures) 65)
          ∙ ap (λ ss. all_ancestors number (map structure_shape ss)) (take_min 65 structures);
    }
