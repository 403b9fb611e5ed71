use Rattle.std.proofs.Common.{Some, ap, ◌∙◌}
use Rattle.std.specs.List.{position_from}
use Rattle.dsr_names.specs.Tables.{is_named}
use Rattle.dsr_struct.proofs.names.set_tables.Goals as goal

pub returns : goal.returns
returns c = record {
  sets = λ q. c.in_ok-sets.ensures q ∙ ap (position_from (λ s. is_named (Some s.name.name) q) 0) c.items.ensures;
  relations = λ q. c.in_ok-relations.ensures q ∙ ap (position_from (λ r. is_named (Some r.name.name) q) 0) c.items-2.ensures;
}
