use Rattle.std.proofs.Common.{ap, ◌∙◌}
use Rattle.std.specs.List.{position_from}
use Rattle.std.specs.Str.{bytes_eq}
use Rattle.dsr_names.proofs.tables.number_tables.Goals as goal

pub returns : goal.returns
returns c = record {
  pools = λ q. c.in_ok-pools.ensures q ∙ ap (position_from (λ p. bytes_eq p.name q) 1) c.items.ensures;
  sets = c.in_ok-symbols.ensures.sets;
  relations = c.in_ok-symbols.ensures.relations;
}
