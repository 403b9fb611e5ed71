use Rattle.dsr_command_laws.proofs.FactsExplained.{explains_facts, explains_nothing_else}
use Rattle.dsr_command_laws.proofs.facts.facts_are_explained.Goals as goal

pub returns : goal.returns
returns c = record {
  facts = explains_facts c.texts_have_one_meaning.ensures;
  nothing_else = explains_nothing_else c.texts_have_one_meaning.ensures;
}
