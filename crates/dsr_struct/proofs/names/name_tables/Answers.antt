use Rattle.std.proofs.Common.{refl}
use Rattle.dsr_struct.specs.Known.{told_by}
use Rattle.dsr_struct.proofs.Tables.{tables_tell}
use Rattle.dsr_struct.proofs.names.name_tables.Goals as goal

pub returns : goal.returns
returns c =
    let structures = c.in_ok-structures.ensures in
    let symbols = c.in_ok-symbols.ensures in
    tables_tell c.args.tree.now (told_by c.args.tree.now (record { structures = c.in_ok-structures.structures; symbols = c.in_ok-symbols.symbols })) (record {
      tree_is = refl;
      structures = structures.structures;
      fields = structures.fields;
      ancestors = structures.ancestors;
      fixed = structures.fixed;
      pools = symbols.pools;
      sets = symbols.sets;
      relations = symbols.relations;
      supplies = symbols.supplies;
    })
