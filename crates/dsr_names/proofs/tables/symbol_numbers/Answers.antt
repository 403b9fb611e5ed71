use Rattle.std.proofs.Common.{ap, ◌∙◌}
use Rattle.std.specs.List.{position_from}
use Rattle.std.specs.Str.{bytes_eq}
use Rattle.dsr_names.proofs.tables.symbol_numbers.Goals as goal

pub returns : goal.returns
returns c = record {
  sets = λ q. c.in_ok-sets.ensures q ∙ ap (position_from (λ s. bytes_eq s.name q) 0) c.items.ensures;
  relations = λ q. c.in_ok-relations.ensures q ∙ ap (position_from (λ r. bytes_eq r.name q) 0) c.items-2.ensures;
}
