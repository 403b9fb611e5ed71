use Rattle.dsr_example_laws.proofs.ListedExamples.{removed_member, removed_pair, value_set}
use Rattle.dsr_example_laws.proofs.templates.templates_that_set_or_take_away_are_listed.Goals as goal

pub returns-clause-value : goal.returns-clause-value
returns-clause-value c = value_set

pub returns-clause-member : goal.returns-clause-member
returns-clause-member c = removed_member

pub returns-clause-pair : goal.returns-clause-pair
returns-clause-pair c = removed_pair
