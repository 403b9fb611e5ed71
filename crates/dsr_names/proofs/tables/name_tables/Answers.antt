use Rattle.std.proofs.Common.{map, ap, ◌∙◌}
use Rattle.std.specs.List.{position_from}
use Rattle.dsr_language_theory.specs.Known.{has_field_name}
use Rattle.dsr_names.proofs.Ancestors.{lines}
use Rattle.dsr_names.proofs.ToldNames.{few_fields, tables_tell}
use Rattle.dsr_names.proofs.tables.name_tables.Goals as goal

pub structure_rows-requires : goal.structure_rows-requires
structure_rows-requires c = rw c.items.ensures (few_fields c.args.base.now c.requires.typed)

pub returns : goal.returns
returns c =
    let rows = c.in_ok-rows in
    let numbers = c.in_ok-numbers in
    tables_tell c.args.base.now (record { pools = numbers.numbers.pools; sets = numbers.numbers.symbols.sets; relations = numbers.numbers.symbols.relations; fields = rows.rows.fields; ancestors = rows.rows.ancestors }) (record {
      pools = numbers.ensures.pools;
      sets = numbers.ensures.sets;
      relations = numbers.ensures.relations;
      fields = rows.ensures.fields ∙ ap (map (λ s q. position_from (has_field_name q) 0 s.fields)) c.items.ensures;
      ancestors = rows.ensures.ancestors ∙ ap lines c.items.ensures;
    })
