use Rattle.std.proofs.Common.{Some, ap, ◌∙◌}
use Rattle.std.specs.List.{position_from}
use Rattle.dsr_names.specs.Tables.{is_named}
use Rattle.dsr_struct.proofs.names.pool_tables.Goals as goal

pub returns : goal.returns
returns c = record {
  pools = λ q. c.in_ok-pools.ensures q ∙ ap (position_from (λ p. is_named (Some p.name.name) q) 0) c.items.ensures;
  supplies = λ q. c.in_ok-supplies.ensures q ∙ ap (position_from (λ f. is_named (Some f.pool.name) q) 0) c.items-2.ensures;
}
