use Rattle.std.proofs.Common.{Some, ap, ◌∙◌}
use Rattle.std.specs.List.{position_from}
use Rattle.dsr_names.specs.Tables.{is_named}
use Rattle.dsr_struct.proofs.names.structure_numbers.Goals as goal

pub returns : goal.returns
returns c = record {
  structures = λ q. c.in_ok-structures.ensures q ∙ ap (position_from (λ s. is_named (Some s.name.name) q) 0) c.items.ensures;
  fixed = c.in_ok-fixed.ensures;
}
