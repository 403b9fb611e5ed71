use Rattle.dsr_command_laws.proofs.FactsExplained.{lists_records, lists_nothing_else}
use Rattle.dsr_command_laws.proofs.facts.lost_records_are_listed.Goals as goal

pub returns : goal.returns
returns c = record {
  records = lists_records c.texts_have_one_meaning.ensures;
  nothing_else = lists_nothing_else c.texts_have_one_meaning.ensures;
}
